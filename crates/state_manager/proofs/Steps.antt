-- What a manager is after each step.
use Rattle.std.proofs.Common.{◌≡◌, ◌∙◌, ◌≢◌, ◌⊎◌, inl, inr, ℕ, ◌+◌, ◌≤◌, ◌<◌, min, Bool, true, false, cond, List, [], ◌∷◌, Option, Some, None, sym, ap, subst, arith}
use Rattle.std.specs.Prelude.{All, OnErr, IfSome, nat_le, option_map}
use Rattle.std.specs.Borrow.{Bor}
use Rattle.std.specs.Option.{option_copied}
use Rattle.std.specs.declared.result.Result.{Result}
use Rattle.std.specs.declared.result.Result.TheVariants.{Ok, Err}
use Rattle.std.proofs.Math.Nat.{min-eq_left}
use Rattle.std.proofs.lemmas.Bool.{ltb-true, ltb-false}
use Rattle.std.proofs.lemmas.List.Elements.{All-nil, All-cons, All-head, All-tail, All-weaker}
use Rattle.rc_base.specs.declared.ids.Lsn.{Lsn}
use Rattle.coll_model.specs.declared.op.Op.{Op}
use Rattle.coll_model.specs.declared.contents.Contents.{Contents}
use Rattle.coll_model.specs.Effect.{at_key, effect}
use Rattle.coll_laws.specs.Rising.{AreRising}
use Rattle.coll_laws.specs.Effects.{name_of, after}
use Rattle.coll_laws.proofs.Effects.{at_effect_other, at_effect_own, rising_effect}
use Rattle.coll_laws.proofs.Entries.{cases_text, same_rising}
use Rattle.state_manager.specs.declared.change.Change.{Change}
use Rattle.state_manager.specs.declared.slot.Slot.{Slot}
use Rattle.state_manager.specs.Chains.{AreSame, AreChanged, is_dropped, standing, seen, AreKept, IsCut, IsTurned}
use Rattle.state_manager.specs.Managed.{Managed, state_at, chain_of, is_changed, IsNoted, AreFalling, IsManaged, HasOthers, has_above}
use Rattle.state_manager.proofs.Seen.{min_split}
use Rattle.state_manager.proofs.States.{rising_shown, at_shown, same_shown, rising_tail, chain_of_head, kept_tail_of}
use Rattle.state_manager.proofs.Managing.{changed_other, changed_apart, resting, noted_cut, noted_turned}

module _ {P : Type 0} (least : P → ℕ) (view : P → ℕ → Contents) where
  -- nothing is seen to change from the top on
  pub quiet : (m : Managed P) → IsManaged least view m → (name : List ℕ) (w : ℕ) → m.top.0 ≤ w → seen view w (chain_of name m.chains) ≡ seen view m.top.0 (chain_of name m.chains)
  quiet m managed name w le = resting least view m.floor.0 m.changes name (chain_of name m.chains) (managed.noted name) m.top.0 managed.in_order managed.recent w le

  -- ---- an operation

  module _ (m : Managed P) (managed : IsManaged least view m) (v : Lsn) (from_top : m.top.0 ≤ v.0) (op : Op) (chains : List (List ℕ × List (Slot P))) (rising : AreRising chains) (others : HasOthers (name_of op) m.chains chains) where
    under : m.floor.0 ≤ v.0
    under = omega (arith, managed.in_order, from_top)

    pub operated : IsTurned least view v.0 (chain_of (name_of op) m.chains) (chain_of (name_of op) chains) (after op (seen view v.0 (chain_of (name_of op) m.chains)))
        → IsManaged least view (record { chains = chains; changes = record { at = v; name = name_of op } ∷ m.changes; floor = m.floor; top = v })
    unfolding under
    operated turned = record {
      in_order = under;
      rising = rising;
      noted = λ name. by name (cases_text name (name_of op));
      recent = All-cons (λ c. c.at.0 ≤ v.0) (record { at = v; name = name_of op }) m.changes (omega arith) all;
      falling = (all, managed.falling);
    }
      where
        all : All (λ c. c.at.0 ≤ v.0) m.changes
        all = All-weaker (λ c. c.at.0 ≤ m.top.0) (λ c. c.at.0 ≤ v.0) (λ c le. omega (arith, le, from_top)) m.changes managed.recent

        own : IsNoted least view m.floor.0 (record { at = v; name = name_of op } ∷ m.changes) (name_of op) (chain_of (name_of op) chains)
        own =
            noted_turned least view m.floor.0 v m.changes (name_of op) (chain_of (name_of op) m.chains) (chain_of (name_of op) chains) (after op (seen view v.0 (chain_of (name_of op) m.chains)))
            (managed.noted (name_of op)) under turned

        by : (name : List ℕ) → (name ≡ name_of op) ⊎ (name ≢ name_of op) → IsNoted least view m.floor.0 (record { at = v; name = name_of op } ∷ m.changes) name (chain_of name chains)
        by name (inl same) = subst (λ (n : List ℕ). IsNoted least view m.floor.0 (record { at = v; name = name_of op } ∷ m.changes) n (chain_of n chains)) (sym same) own
        by name (inr apart) =
            let noted = managed.noted name in
            subst (IsNoted least view m.floor.0 (record { at = v; name = name_of op } ∷ m.changes) name) (sym (others name apart)) (record {
              kept = noted.kept;
              rests = λ n from e. noted.rests n from (sym (changed_other name (n + 1) (record { at = v; name = name_of op }) m.changes apart) ∙ e);
            })

    pub operated_states : (changes : List Change) → IsTurned least view v.0 (chain_of (name_of op) m.chains) (chain_of (name_of op) chains) (after op (seen view v.0 (chain_of (name_of op) m.chains)))
        → AreChanged v.0 m.floor.0 (state_at view m) (state_at view (record { chains = chains; changes = changes; floor = m.floor; top = v })) (effect (state_at view m m.top.0) op)
    unfolding under
    operated_states changes turned = record {
      below = λ w from less. same_shown view w w chains m.chains rising managed.rising (λ name. before name w from less (cases_text name (name_of op)));
      from = λ w le.
          same_rising (state_at view (record { chains = chains; changes = changes; floor = m.floor; top = v }) w) (effect (state_at view m m.top.0) op) (rising_shown view w chains rising)
          (rising_effect (state_at view m m.top.0) op (rising_shown view m.top.0 m.chains managed.rising))
          (λ name. at_shown view w name chains rising ∙ then name w le (cases_text name (name_of op)));
    }
      where
        looks : AreChanged v.0 m.floor.0 (λ w. seen view w (chain_of (name_of op) m.chains)) (λ w. seen view w (chain_of (name_of op) chains)) (after op (seen view v.0 (chain_of (name_of op) m.chains)))
        looks = turned.views m.floor.0 (managed.noted (name_of op)).kept under

        before : (name : List ℕ) (w : ℕ) → m.floor.0 ≤ w → w < v.0 → (name ≡ name_of op) ⊎ (name ≢ name_of op) → seen view w (chain_of name chains) ≡ seen view w (chain_of name m.chains)
        before name w from less (inl same) = subst (λ (n : List ℕ). seen view w (chain_of n chains) ≡ seen view w (chain_of n m.chains)) (sym same) (looks.below w from less)
        before name w from less (inr apart) = ap (seen view w) (others name apart)

        own : (w : ℕ) → v.0 ≤ w → seen view w (chain_of (name_of op) chains) ≡ at_key (name_of op) (effect (state_at view m m.top.0) op)
        own w le =
            looks.from w le ∙ ap (after op) (quiet m managed (name_of op) v.0 from_top ∙ sym (at_shown view m.top.0 (name_of op) m.chains managed.rising))
            ∙ sym (at_effect_own (state_at view m m.top.0) op (rising_shown view m.top.0 m.chains managed.rising))

        then : (name : List ℕ) (w : ℕ) → v.0 ≤ w → (name ≡ name_of op) ⊎ (name ≢ name_of op) → seen view w (chain_of name chains) ≡ at_key name (effect (state_at view m m.top.0) op)
        then name w le (inl same) = subst (λ (n : List ℕ). seen view w (chain_of n chains) ≡ at_key n (effect (state_at view m m.top.0) op)) (sym same) (own w le)
        then name w le (inr apart) =
            ap (seen view w) (others name apart) ∙ quiet m managed name w (omega (arith, from_top, le)) ∙ sym (at_shown view m.top.0 name m.chains managed.rising)
            ∙ sym (at_effect_other (state_at view m m.top.0) op name apart)

  -- ---- what came above a version is undone under one name

  module _ (m : Managed P) (managed : IsManaged least view m) (v : ℕ) (under : m.floor.0 ≤ v) (own : List ℕ) (chains : List (List ℕ × List (Slot P))) (rising : AreRising chains) (others : HasOthers own m.chains chains)
      (cut : IsCut least view v (chain_of own m.chains) (chain_of own chains)) where
    looks_cut : (w : ℕ) → m.floor.0 ≤ w → seen view w (chain_of own chains) ≡ seen view (min w v) (chain_of own m.chains)
    looks_cut w from = cut.views m.floor.0 (managed.noted own).kept under w from

    -- with whatever changes, where those of other names, and of this one up to the version, are noted still
    cut_managed : (changes : List Change) → All (λ c. c.at.0 ≤ m.top.0) changes → AreFalling changes
        → ((name : List ℕ) (n : ℕ) → name ≢ own → is_changed name n changes ≡ false → is_changed name n m.changes ≡ false)
        → ((n : ℕ) → n < v → is_changed own (n + 1) changes ≡ false → is_changed own (n + 1) m.changes ≡ false)
        → IsManaged least view (record { chains = chains; changes = changes; floor = m.floor; top = m.top })
    cut_managed changes recent falling same_others same_own = record {
      in_order = managed.in_order;
      rising = rising;
      noted = λ name. by name (cases_text name own);
      recent = recent;
      falling = falling;
    }
      where
        by : (name : List ℕ) → (name ≡ own) ⊎ (name ≢ own) → IsNoted least view m.floor.0 changes name (chain_of name chains)
        by name (inl same) =
            subst (λ (n : List ℕ). IsNoted least view m.floor.0 changes n (chain_of n chains)) (sym same)
            (noted_cut least view m.floor.0 v m.changes changes own (chain_of own m.chains) (chain_of own chains) (managed.noted own) under cut same_own)
        by name (inr apart) =
            let noted = managed.noted name in
            subst (IsNoted least view m.floor.0 changes name) (sym (others name apart)) (record {
              kept = noted.kept;
              rests = λ n from e. noted.rests n from (same_others name (n + 1) apart e);
            })

    -- an operation that failed
    pub failed : IsManaged least view (record { chains = chains; changes = m.changes; floor = m.floor; top = m.top })
    failed = cut_managed m.changes managed.recent managed.falling (λ name n apart e. e) (λ n less e. e)

    pub failed_states : (changes : List Change) (top : Lsn) → m.top.0 ≤ v → AreSame m.floor.0 (state_at view m) (state_at view (record { chains = chains; changes = changes; floor = m.floor; top = top }))
    unfolding looks_cut
    failed_states changes top from_top = λ w from. same_shown view w w chains m.chains rising managed.rising (λ name. by name w from (cases_text name own))
      where
        here : (w : ℕ) → m.floor.0 ≤ w → seen view (min w v) (chain_of own m.chains) ≡ seen view w (chain_of own m.chains)
        here w from = elim (min_split w v) [ inl h ↦ ap (λ (n : ℕ). seen view n (chain_of own m.chains)) h.1 | inr h ↦ ap (λ (n : ℕ). seen view n (chain_of own m.chains)) h.1 ∙ quiet m managed own v from_top ∙ sym (quiet m managed own w (omega (arith, from_top, h.0))) ]

        by : (name : List ℕ) (w : ℕ) → m.floor.0 ≤ w → (name ≡ own) ⊎ (name ≢ own) → seen view w (chain_of name chains) ≡ seen view w (chain_of name m.chains)
        by name w from (inl same) = subst (λ (n : List ℕ). seen view w (chain_of n chains) ≡ seen view w (chain_of n m.chains)) (sym same) (looks_cut w from ∙ here w from)
        by name w from (inr apart) = ap (seen view w) (others name apart)

    -- the newest change, above the version, is taken back
    pub taken_back : (change : Change) (changes : List Change) → m.changes ≡ change ∷ changes → change.name ≡ own → v < change.at.0 → IsManaged least view (record { chains = chains; changes = changes; floor = m.floor; top = m.top })
    taken_back change changes is named above =
        let recent : All (λ c. c.at.0 ≤ m.top.0) (change ∷ changes) = subst (All (λ c. c.at.0 ≤ m.top.0)) is managed.recent in
        let falling : AreFalling (change ∷ changes) = subst AreFalling is managed.falling in
        cut_managed changes (All-tail (λ c. c.at.0 ≤ m.top.0) change changes recent) falling.1
        (λ name n apart e. ap (is_changed name n) is ∙ changed_other name n change changes (λ same. apart (same ∙ named)) ∙ e)
        (λ n less e. ap (is_changed own (n + 1)) is ∙ changed_apart own (n + 1) change changes (omega (arith, less, above)) ∙ e)

    pub taken_states : (changes : List Change) → (w : ℕ) → m.floor.0 ≤ w → w ≤ v → state_at view (record { chains = chains; changes = changes; floor = m.floor; top = m.top }) w ≡ state_at view m w
    unfolding looks_cut
    taken_states changes w from le = same_shown view w w chains m.chains rising managed.rising (λ name. by name (cases_text name own))
      where
        by : (name : List ℕ) → (name ≡ own) ⊎ (name ≢ own) → seen view w (chain_of name chains) ≡ seen view w (chain_of name m.chains)
        by name (inl same) =
            subst (λ (n : List ℕ). seen view w (chain_of n chains) ≡ seen view w (chain_of n m.chains)) (sym same) (looks_cut w from ∙ ap (λ (n : ℕ). seen view n (chain_of own m.chains)) (min-eq_left le))
        by name (inr apart) = ap (seen view w) (others name apart)

  -- ---- all above a version is undone

  pub lowered : (m : Managed P) → IsManaged least view m → (v : Lsn) → m.floor.0 ≤ v.0 → All (λ c. c.at.0 ≤ v.0) m.changes → IsManaged least view (record m { top = v })
  lowered m managed v under all = record { in_order = under; rising = managed.rising; noted = managed.noted; recent = all; falling = managed.falling }

  pub lowered_states : (m : Managed P) → IsManaged least view m → (v : ℕ) → m.floor.0 ≤ v → All (λ c. c.at.0 ≤ v) m.changes → (w : ℕ) → v ≤ w → state_at view m w ≡ state_at view m v
  lowered_states m managed v under all w le = same_shown view w v m.chains m.chains managed.rising managed.rising
      (λ name. resting least view m.floor.0 m.changes name (chain_of name m.chains) (managed.noted name) v under all w le)

-- ---- in the steps of the code

module _ {P : Type 0} (least : P → ℕ) (view : P → ℕ → Contents) where
  pub kept_at : (m : Managed P) → IsManaged least view m → (v : ℕ) → m.floor.0 ≤ v → (name : List ℕ) → AreKept least v (chain_of name m.chains)
  kept_at m managed v under name = All-weaker (λ s. least s.provider ≤ m.floor.0) (λ s. least s.provider ≤ v) (λ s le. omega (arith, le, under)) (chain_of name m.chains) (managed.noted name).kept

pub on_err_any : {T E X : Type 0} (r : Result T E) → X → OnErr r X
on_err_any (Ok t) x = tt
on_err_any (Err e) x = x

module _ {P : Type 0} where
  pub standing_shown : (view : P → ℕ → Contents) (v : ℕ) (chain : List (Slot P)) (r : Option (Bor (Slot P))) → option_copied r ≡ standing v chain → option_map (λ slot. view slot.provider v) (option_copied r) ≡ seen view v chain
  standing_shown view v chain r e = ap (option_map (λ slot. view slot.provider v)) e

  standing_all : (least : P → ℕ) (floor v : ℕ) (chain : List (Slot P)) → AreKept least floor chain → IfSome (standing v chain) (λ slot. least slot.provider ≤ floor)
  standing_all least floor v [] all = tt
  standing_all least floor v (slot ∷ older) all = by (nat_le slot.made.0 v) (is_dropped v slot) (standing_all least floor v older (All-tail (λ s. least s.provider ≤ floor) slot older all))
    where
      by : (b d : Bool) → IfSome (standing v older) (λ s. least s.provider ≤ floor) → IfSome (cond b (cond d None (Some slot)) (standing v older)) (λ s. least s.provider ≤ floor)
      by true true later = tt
      by true false later = All-head (λ s. least s.provider ≤ floor) slot older all
      by false d later = later

  pub standing_kept : (least : P → ℕ) (floor v : ℕ) (chain : List (Slot P)) → AreKept least floor chain → (r : Option (Bor (Slot P))) → option_copied r ≡ standing v chain → IfSome r (λ slot. least slot.now.provider ≤ floor)
  standing_kept least floor v chain all None e = tt
  standing_kept least floor v chain all (Some slot) e = subst (λ (o : Option (Slot P)). IfSome o (λ s. least s.provider ≤ floor)) (sym e) (standing_all least floor v chain all)

pub newest_above : (v : ℕ) (change : Change) (older changes : List Change) → changes ≡ change ∷ older → has_above v changes ≡ true → v < change.at.0
newest_above v change older changes is e = ltb-true v change.at.0 (sym (ap (has_above v) is) ∙ e)

-- where the newest is not above the version, none is
pub none_above : (v : ℕ) (changes : List Change) → AreFalling changes → has_above v changes ≡ false → All (λ c. c.at.0 ≤ v) changes
none_above v [] falling e = All-nil (λ c. c.at.0 ≤ v)
none_above v (change ∷ older) falling e =
    let le : change.at.0 ≤ v = ltb-false v change.at.0 e in
    All-cons (λ c. c.at.0 ≤ v) change older le (All-weaker (λ c. c.at.0 ≤ change.at.0) (λ c. c.at.0 ≤ v) (λ c under. omega (arith, under, le)) older falling.0)

module _ {P : Type 0} (least : P → ℕ) (view : P → ℕ → Contents) (m : Managed P) (managed : IsManaged least view m) where
  -- from the top on the state rests
  pub state_rests : (w : ℕ) → m.top.0 ≤ w → state_at view m w ≡ state_at view m m.top.0
  state_rests w le = lowered_states least view m managed m.top.0 managed.in_order managed.recent w le

  pub state_min : (w : ℕ) → state_at view m (min w m.top.0) ≡ state_at view m w
  state_min w = by (min_split w m.top.0)
    where
      by : ((w ≤ m.top.0) × (min w m.top.0 ≡ w)) ⊎ ((m.top.0 ≤ w) × (min w m.top.0 ≡ m.top.0)) → state_at view m (min w m.top.0) ≡ state_at view m w
      by (inl h) = ap (state_at view m) h.1
      by (inr h) = ap (state_at view m) h.1 ∙ sym (state_rests w h.0)

-- each entry can be looked at
pub all_kept : {P : Type 0} (least : P → ℕ) (v : ℕ) (chains : List (List ℕ × List (Slot P))) → AreRising chains → ((name : List ℕ) → AreKept least v (chain_of name chains)) → All (λ entry. AreKept least v entry.1) chains
all_kept {P} least v [] rising each = All-nil (λ (entry : List ℕ × List (Slot P)). AreKept least v entry.1)
all_kept {P} least v (e ∷ chains) rising each =
    All-cons (λ (entry : List ℕ × List (Slot P)). AreKept least v entry.1) e chains (subst (AreKept least v) (chain_of_head e chains) (each e.0))
    (all_kept least v chains (rising_tail e chains rising) (λ name. kept_tail_of e chains (AreKept least v) (All-nil (λ s. least s.provider ≤ v)) rising name (each name)))
