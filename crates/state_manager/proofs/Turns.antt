-- What operations and merges make of what is seen.
use Rattle.std.proofs.Common.{◌≡◌, ◌∙◌, ◌⊎◌, inl, inr, ℕ, ◌≤◌, ◌<◌, nat_le, Bool, true, false, cond, List, [], ◌∷◌, Option, Some, None, option_map, refl, sym, ap, ap₂, subst, arith}
use Rattle.std.specs.Prelude.{IfSome, is_none}
use Rattle.std.specs.Option.{option_map_or}
use Rattle.std.proofs.lemmas.Bool.{cases_lt, le-leb, lt-leb}
use Rattle.std.proofs.Math.Nat.{min-eq_left}
use Rattle.std.proofs.lemmas.List.Elements.{All-cons, All-head}
use Rattle.rc_base.specs.declared.ids.Lsn.{Lsn}
use Rattle.coll_model.specs.declared.op.Kind.{Kind}
use Rattle.coll_model.specs.declared.op.Op.{Op}
use Rattle.coll_model.specs.declared.op.Op.TheVariants.{Make, Unmake, Put, Del, Push, Pop}
use Rattle.coll_model.specs.declared.contents.Contents.{Contents}
use Rattle.coll_model.specs.Effect.{fresh}
use Rattle.coll_laws.specs.Effects.{after}
use Rattle.provider_law.specs.Views.{Rests, alone}
use Rattle.state_manager.specs.declared.slot.Slot.{Slot}
use Rattle.state_manager.specs.Chains.{AreChanged, seen, own, dropped_at, has_live, made_over, AreKept, HasNewest, IsSlotSettled, IsSettled, IsApplied, IsSame, IsCut, IsTurned}
use Rattle.state_manager.proofs.Seen.{seen_own, seen_older, kept_newest}

module _ {P : Type 0} (least greatest : P → ℕ) (view : P → ℕ → Contents) (rests : (p : P) → Rests (greatest p) (view p)) where
  -- ---- from the version on a settled name rests

  dropped_settled : (v w : ℕ) → v ≤ w → (o : Option Lsn) → IfSome o (λ at. at.0 ≤ v) → option_map_or (λ at. nat_le at.0 w) o false ≡ option_map_or (λ at. nat_le at.0 v) o false
  dropped_settled v w le None h = refl
  dropped_settled v w le (Some at) h = le-leb at.0 w (omega (arith, h, le)) ∙ sym (le-leb at.0 v h)

  own_settled : (v w : ℕ) (slot : Slot P) → IsSlotSettled greatest v slot → v ≤ w → own view w slot ≡ own view v slot
  own_settled v w slot settled le =
      ap₂ (λ (d : Bool) (c : Contents). cond d None (Some c)) (dropped_settled v w le slot.dropped settled.dropped)
      (rests slot.provider w (omega (arith, settled.to, le)) ∙ sym (rests slot.provider v settled.to))

  pub seen_settled : (v : ℕ) (chain : List (Slot P)) → IsSettled greatest v chain → (w : ℕ) → v ≤ w → seen view w chain ≡ seen view v chain
  seen_settled v [] settled w le = refl
  seen_settled v (slot ∷ older) settled w le =
      seen_own view w slot older (omega (arith, settled.made, le)) ∙ own_settled v w slot settled le ∙ sym (seen_own view v slot older settled.made)

  -- ---- a step of the newest

  seen_newest : (v floor : ℕ) (steps : Slot P → Slot P → Type 0) (f : Option Contents → Option Contents) → f None ≡ None
      → ((slot now : Slot P) → IsSlotSettled greatest v slot → steps slot now → (now.made ≡ slot.made)
      × ((w : ℕ) → least slot.provider ≤ w → w < v → own view w now ≡ own view w slot) × ((w : ℕ) → v ≤ w → own view w now ≡ f (own view v slot)))
      → (old new : List (Slot P)) → IsSettled greatest v old → HasNewest steps old new → AreKept least floor old
      → AreChanged v floor (λ w. seen view w old) (λ w. seen view w new) (f (seen view v old))
  seen_newest v floor steps f none each [] new settled e kept = record {
    below = λ w from less. ap (seen view w) e;
    from = λ w le. ap (seen view w) e ∙ sym none;
  }
  seen_newest v floor steps f none each (slot ∷ older) new settled h kept = record {
    below = λ w from less. ap (seen view w) h.2 ∙ below w from less (cases_lt w slot.made.0);
    from = λ w le.
        let over : slot.made.0 ≤ w = omega (arith, settled.made, le) in
        ap (seen view w) h.2 ∙ seen_own view w now older (subst (λ (n : ℕ). n ≤ w) (sym now_made) over) ∙ own_now.2 w le ∙ ap f (sym (seen_own view v slot older settled.made));
  }
    where
      now : Slot P
      now = h.0

      own_now : (now.made ≡ slot.made) × ((w : ℕ) → least slot.provider ≤ w → w < v → own view w now ≡ own view w slot) × ((w : ℕ) → v ≤ w → own view w now ≡ f (own view v slot))
      own_now = each slot now settled h.1

      now_made : now.made.0 ≡ slot.made.0
      now_made = ap (λ (at : Lsn). at.0) own_now.0

      first : least slot.provider ≤ floor
      first = All-head (λ s. least s.provider ≤ floor) slot older kept

      below : (w : ℕ) → floor ≤ w → w < v → (w < slot.made.0) ⊎ (slot.made.0 ≤ w) → seen view w (now ∷ older) ≡ seen view w (slot ∷ older)
      below w from less (inl under) = seen_older view w now older (subst (λ (n : ℕ). w < n) (sym now_made) under) ∙ sym (seen_older view w slot older under)
      below w from less (inr over) =
          seen_own view w now older (subst (λ (n : ℕ). n ≤ w) (sym now_made) over) ∙ own_now.1 w (omega (arith, first, from)) less ∙ sym (seen_own view w slot older over)

  -- ---- a drop

  own_dropped : (v : Lsn) (slot : Slot P) (w : ℕ) → v.0 ≤ w → IfSome slot.dropped (λ at. at.0 ≤ v.0) → own view w (dropped_at v slot) ≡ None
  own_dropped v slot w le settled = ap (λ (d : Bool). cond d None (Some (view slot.provider w))) (by slot.dropped settled)
    where
      by : (o : Option Lsn) → IfSome o (λ at. at.0 ≤ v.0) → nat_le (option_map_or (λ (at : Lsn). at) o v).0 w ≡ true
      by None h = le-leb v.0 w le
      by (Some at) h = le-leb at.0 w (omega (arith, h, le))

  own_undropped : (v : Lsn) (slot : Slot P) (w : ℕ) → w < v.0 → own view w (dropped_at v slot) ≡ own view w slot
  own_undropped v slot w less = ap (λ (d : Bool). cond d None (Some (view slot.provider w))) (by slot.dropped)
    where
      by : (o : Option Lsn) → nat_le (option_map_or (λ (at : Lsn). at) o v).0 w ≡ option_map_or (λ at. nat_le at.0 w) o false
      by None = lt-leb v.0 w less
      by (Some at) = refl

  pub turned_drop : (v : Lsn) (old new : List (Slot P)) → IsSettled greatest v.0 old → HasNewest (λ slot now. now ≡ dropped_at v slot) old new → IsTurned least view v.0 old new None
  turned_drop v old new settled h = record {
    kept = kept_newest least (λ slot now. now ≡ dropped_at v slot) (λ slot now e. ap (λ (s : Slot P). least s.provider) e) old new h;
    views = λ floor kept under. seen_newest v.0 floor (λ slot now. now ≡ dropped_at v slot) (λ o. None) refl
        (λ slot now own_settled e. (
          ap (λ (s : Slot P). s.made) e,
          (λ w from less. ap (own view w) e ∙ own_undropped v slot w less),
          (λ w le. ap (own view w) e ∙ own_dropped v slot w le own_settled.dropped),
        )) old new settled h kept;
  }

  -- ---- an operation on the newest

  pub turned_apply : (v : ℕ) (op : Op) (old new : List (Slot P)) → IsSettled greatest v old → HasNewest (IsApplied least view v op) old new
      → IsTurned least view v old new (option_map (λ contents. alone contents op) (seen view v old))
  turned_apply v op old new settled h = record {
    kept = kept_newest least (IsApplied least view v op) (λ slot now applied. applied.floor) old new h;
    views = λ floor kept under. seen_newest v floor (IsApplied least view v op) (option_map (λ contents. alone contents op)) refl
        (λ slot now own_settled applied. (applied.made, applied.below, applied.from)) old new settled h kept;
  }

  -- nothing changed that can be seen
  same_newest : (v floor : ℕ) (old new : List (Slot P)) → IsSettled greatest v old → HasNewest (IsSame least view) old new → AreKept least floor old → floor ≤ v
      → (w : ℕ) → floor ≤ w → seen view w new ≡ seen view w old
  same_newest v floor [] new settled e kept under w from = ap (seen view w) e
  same_newest v floor (slot ∷ older) new settled h kept under w from = ap (seen view w) h.2 ∙ by (cases_lt w slot.made.0)
    where
      first : least slot.provider ≤ floor
      first = All-head (λ s. least s.provider ≤ floor) slot older kept

      now_made : h.0.made.0 ≡ slot.made.0
      now_made = ap (λ (at : Lsn). at.0) h.1.made

      by : (w < slot.made.0) ⊎ (slot.made.0 ≤ w) → seen view w (h.0 ∷ older) ≡ seen view w (slot ∷ older)
      by (inl less) = seen_older view w h.0 older (subst (λ (n : ℕ). w < n) (sym now_made) less) ∙ sym (seen_older view w slot older less)
      by (inr le) =
          seen_own view w h.0 older (subst (λ (n : ℕ). n ≤ w) (sym now_made) le) ∙ h.1.views w (omega (arith, first, from)) ∙ sym (seen_own view w slot older le)

  pub cut_same : (v : ℕ) (old mid new : List (Slot P)) → IsCut least view v old mid → IsSettled greatest v mid → HasNewest (IsSame least view) mid new → IsCut least view v old new
  cut_same v old mid new cut settled h = record {
    kept = λ floor all. kept_newest least (IsSame least view) (λ slot now same. same.floor) mid new h floor (cut.kept floor all);
    views = λ floor all under w from. same_newest v floor mid new settled h (cut.kept floor all) under w from ∙ cut.views floor all under w from;
  }

  -- ---- a make

  pub turned_rest : (v : ℕ) (chain : List (Slot P)) → IsSettled greatest v chain → IsTurned least view v chain chain (seen view v chain)
  turned_rest v chain settled = record {
    kept = λ floor all. all;
    views = λ floor all under. record { below = λ w from less. refl; from = λ w le. seen_settled v chain settled w le };
  }

  live_seen : (v : ℕ) (chain : List (Slot P)) → IsSettled greatest v chain → (kind : Kind) → (b : Bool) → has_live chain ≡ b
      → made_over kind (seen view v chain) ≡ cond b (seen view v chain) (Some (fresh kind))
  live_seen v [] settled kind b e = subst (λ (x : Bool). Some (fresh kind) ≡ cond x None (Some (fresh kind))) e refl
  live_seen v (slot ∷ older) settled kind b e =
      ap (made_over kind) newest ∙ by slot.dropped refl settled.dropped ∙ ap₂ (λ (x : Bool) (o : Option Contents). cond x o (Some (fresh kind))) e (sym newest)
    where
      newest : seen view v (slot ∷ older) ≡ own view v slot
      newest = seen_own view v slot older settled.made

      by : (o : Option Lsn) → slot.dropped ≡ o → IfSome o (λ at. at.0 ≤ v) → made_over kind (own view v slot) ≡ cond (is_none slot.dropped) (own view v slot) (Some (fresh kind))
      by None is h = rw is refl
      by (Some at) is h = rw is (rw (le-leb at.0 v h) refl)

  pub turned_live : (v : ℕ) (chain : List (Slot P)) (kind : Kind) → IsSettled greatest v chain → has_live chain ≡ true → IsTurned least view v chain chain (made_over kind (seen view v chain))
  turned_live v chain kind settled live = subst (IsTurned least view v chain chain) (sym (live_seen v chain settled kind true live)) (turned_rest v chain settled)

  pub turned_make : (v : Lsn) (chain new : List (Slot P)) (kind : Kind) (provider : P) → IsSettled greatest v.0 chain → has_live chain ≡ false → least provider ≡ 0
      → ((w : ℕ) → view provider w ≡ fresh kind) → new ≡ record { provider = provider; made = v; dropped = None } ∷ chain
      → IsTurned least view v.0 chain new (made_over kind (seen view v.0 chain))
  turned_make v chain new kind provider settled dead zero looks is =
      subst (λ (all : List (Slot P)). IsTurned least view v.0 chain all (made_over kind (seen view v.0 chain))) (sym is)
      (subst (IsTurned least view v.0 chain (slot ∷ chain)) (sym (live_seen v.0 chain settled kind false dead)) (record {
        kept = λ floor all. All-cons (λ s. least s.provider ≤ floor) slot chain (subst (λ (n : ℕ). n ≤ floor) (sym zero) (omega arith)) all;
        views = λ floor all under. record {
          below = λ w from less. seen_older view w slot chain less;
          from = λ w le. seen_own view w slot chain le ∙ ap (λ (c : Contents). Some c) (looks w);
        };
      }))
    where
      slot : Slot P
      slot = record { provider = provider; made = v; dropped = None }

  -- ---- behind an undo

  pub turned_after : (v : ℕ) (old mid new : List (Slot P)) (f : Option Contents → Option Contents) → IsCut least view v old mid → IsTurned least view v mid new (f (seen view v mid)) → AreKept least v old
      → IsTurned least view v old new (f (seen view v old))
  turned_after v old mid new f cut turned here = record {
    kept = λ floor all. turned.kept floor (cut.kept floor all);
    views = λ floor all under.
        let changed = turned.views floor (cut.kept floor all) under in
        let same : seen view v mid ≡ seen view v old = cut.views v here (omega arith) v (omega arith) ∙ ap (λ (n : ℕ). seen view n old) (min-eq_left (omega arith)) in
        record {
          below = λ w from less. changed.below w from less ∙ cut.views floor all under w from ∙ ap (λ (n : ℕ). seen view n old) (min-eq_left (omega (arith, less)));
          from = λ w le. changed.from w le ∙ ap f same;
        };
  }

-- the other operations change what stands
pub after_alone : (op : Op) → ((name : List ℕ) (kind : Kind) → op ≡ Make name kind → ⊥) → ((name : List ℕ) → op ≡ Unmake name → ⊥) → (o : Option Contents)
    → option_map (λ contents. alone contents op) o ≡ after op o
after_alone (Make name kind) make unmake o = absurd (make name kind refl)
after_alone (Unmake name) make unmake o = absurd (unmake name refl)
after_alone (Put name key value) make unmake o = refl
after_alone (Del name key) make unmake o = refl
after_alone (Push name value) make unmake o = refl
after_alone (Pop name) make unmake o = refl

pub after_make : (name : List ℕ) (kind : Kind) (o : Option Contents) → made_over kind o ≡ after (Make name kind) o
after_make name kind None = refl
after_make name kind (Some c) = refl
