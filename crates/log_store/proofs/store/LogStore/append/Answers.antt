use Rattle.std.proofs.Common.{◌≡◌, ◌<◌, ℕ, inl, inr, List, Ok, sym, ap, ◌∙◌, subst}
use Rattle.std.specs.Prelude.{OnOk}
use Rattle.std.proofs.lemmas.Bool.{false≢true}
use Rattle.std.proofs.lemmas.Result.{on_ok_weaker}
use Rattle.disk_model.specs.Disk.{Areas, Changes, Follows}
use Rattle.std.specs.Option.{option_map}
use Rattle.log_records.specs.declared.record.Physical.{Physical}
use Rattle.log_store.specs.Durable.{durable}
use Rattle.log_store.specs.Growth.{after}
use Rattle.gated_log.specs.Blocks.{IsAtRest, Gains, KeepsOrGains}
use Rattle.gated_log.specs.Log.{Log, StaysElsewhere}
use Rattle.barrier_group.specs.Group.{spelled}
use Rattle.log_store.specs.Store.{Store, IsTaken}
use Rattle.std.proofs.lemmas.Bool.{cases_Bool}
use Rattle.log_store.proofs.Images.{cases_list, stands, grown, still_taken, slots_follow, slots_within, slots_seen, on_ok, closed_not_ok, closed_is_err, not_err}
use Rattle.log_store.proofs.store.LogStore.append.Goals as goal

pub returns-clause-stop : goal.returns-clause-stop
returns-clause-stop g c is_open v stand =
    let old = g.D.Disk.images c.args.disk.now in
    let new = g.D.Disk.images c.flush.new.disk in
    let open_on = c.requires.opened is_open in
    let area = c.args.self.now.log.area in
    let items = c.args.group.now in
    let same : c.self.inside.log ≡ c.args.self.now.log = ap (λ (s : Store). s.log) c.self.view_is in
    elim (cases_list items) [
      | inl none ↦ λ d is. inl (stand d (subst (λ s. g.D.Disk.images s d) (c.flush.ensures.empty none).2 is))
      | inr some ↦ stands old new area items open_on.taken c.flush.ensures.physical (c.requires.goes_on is_open)
          (subst (λ (l : Log). Follows (Changes l.area (KeepsOrGains (spelled items))) old new) same (c.flush.ensures.stop some)) v stand
    ]

pub returns-clause-ok : goal.returns-clause-ok
returns-clause-ok g c =
    let old = g.D.Disk.images c.args.disk.now in
    let new = g.D.Disk.images c.flush.new.disk in
    let area = c.args.self.now.log.area in
    let items = c.args.group.now in
    let same : c.self.inside.log ≡ c.args.self.now.log = ap (λ (s : Store). s.log) c.self.view_is in
    elim (cases_list items) [
      | inl none ↦ on_ok c.flush.result (λ v stand d is. subst (λ (xs : List Physical). durable d ≡ Ok (after v xs)) (sym none) (stand d (subst (λ s. g.D.Disk.images s d) (c.flush.ensures.empty none).2 is)))
      | inr some ↦ elim (cases_Bool c.args.self.now.log.closed) [
        | inl closed ↦ closed_not_ok _ c.flush.result ((c.flush.ensures.closed_before some).1 (ap (λ (l : Log). l.closed) same ∙ closed))
        | inr is_open ↦ on_ok_weaker c.flush.result
            (λ follows v stand d is. (grown old new area items (c.requires.opened is_open).taken c.flush.ensures.physical (c.requires.goes_on is_open)
            (subst (λ (l : Log). Follows (Changes l.area (Gains (spelled items))) old new) same follows) v stand d is).holds)
            (c.flush.ensures.gains some)
      ]
    ]

pub returns-clause-opened : goal.returns-clause-opened
returns-clause-opened g c still_open =
    let old = g.D.Disk.images c.args.disk.now in
    let new = g.D.Disk.images c.flush.new.disk in
    let area = c.args.self.now.log.area in
    let items = c.args.group.now in
    let same : c.self.inside.log ≡ c.args.self.now.log = ap (λ (s : Store). s.log) c.self.view_is in
    let there : c.flush.new.log.area ≡ area = c.flush.ensures.area ∙ ap (λ (l : Log). l.area) same in
    elim (cases_list items) [
      | inl none ↦
          let back : c.flush.new.log ≡ c.args.self.now.log = (c.flush.ensures.empty none).1 ∙ same in
          let open_on = c.requires.opened (sym (ap (λ (l : Log). l.closed) back) ∙ still_open) in
          let image : (d : Areas) → new d → old d = λ d is. subst (λ s. g.D.Disk.images s d) (c.flush.ensures.empty none).2 is in
          record {
            low = subst (λ (l : Log). l.area < 2) (sym back) open_on.low;
            settled = λ d is. subst (λ (l : Log). IsAtRest (d l.area) l.end) (sym back) (open_on.settled d (image d is));
            taken = λ d is. subst (λ (l : Log). IsTaken l.area d) (sym back) (open_on.taken d (image d is));
          }
      | inr some ↦
          let done = sym (c.flush.ensures.closed some) ∙ still_open in
          elim (cases_Bool c.args.self.now.log.closed) [
            | inl closed ↦ absurd (false≢true (sym done ∙ closed_is_err c.flush.result ((c.flush.ensures.closed_before some).1 (ap (λ (l : Log). l.closed) same ∙ closed))))
            | inr is_open ↦
                let open_on = c.requires.opened is_open in
                let follows = not_err c.flush.result done (c.flush.ensures.gains some) in
                let taken = still_taken old new area items open_on.taken c.flush.ensures.physical (c.requires.goes_on is_open)
                (subst (λ (l : Log). Follows (Changes l.area (Gains (spelled items))) old new) same follows) in
                record {
                  low = subst (λ (a : ℕ). a < 2) (sym there) open_on.low;
                  settled = not_err c.flush.result done (c.flush.ensures.settled some);
                  taken = λ d is. subst (λ (a : ℕ). IsTaken a d) (sym there) (taken d is);
                }
          ]
    ]

pub returns-clause-slots : goal.returns-clause-slots
returns-clause-slots g c =
    let old = g.D.Disk.images c.args.disk.now in
    let new = g.D.Disk.images c.flush.new.disk in
    let area = c.args.self.now.log.area in
    let items = c.args.group.now in
    let same : c.self.inside.log ≡ c.args.self.now.log = ap (λ (s : Store). s.log) c.self.view_is in
    elim (cases_list items) [
      | inl none ↦ slots_within old new (λ d is. subst (λ s. g.D.Disk.images s d) (c.flush.ensures.empty none).2 is)
      | inr some ↦ elim (cases_Bool c.args.self.now.log.closed) [
        | inl closed ↦ slots_within old new (λ d is. subst (λ s. g.D.Disk.images s d) (c.flush.ensures.untouched (ap (λ (l : Log). l.closed) same ∙ closed)) is)
        | inr is_open ↦ slots_follow old new area (c.requires.opened is_open).low
            (subst (λ (l : Log). Follows (Changes l.area (KeepsOrGains (spelled items))) old new) same (c.flush.ensures.stop some))
      ]
    ]

pub returns-clause-slots_seen : goal.returns-clause-slots_seen
returns-clause-slots_seen g c =
    let area = c.args.self.now.log.area in
    let items = c.args.group.now in
    let same : c.self.inside.log ≡ c.args.self.now.log = ap (λ (s : Store). s.log) c.self.view_is in
    let seen_old = g.D.Disk.seen c.args.disk.now in
    let seen_new = g.D.Disk.seen c.flush.new.disk in
    elim (cases_list items) [
      | inl none ↦ on_ok c.flush.result (λ b high. ap (λ s. option_map (λ (a : Areas). a b) (g.D.Disk.seen s)) (c.flush.ensures.empty none).2)
      | inr some ↦ elim (cases_Bool c.args.self.now.log.closed) [
        | inl closed ↦ closed_not_ok _ c.flush.result ((c.flush.ensures.closed_before some).1 (ap (λ (l : Log). l.closed) same ∙ closed))
        | inr is_open ↦ on_ok_weaker c.flush.result
            (slots_seen seen_old seen_new area (c.requires.opened is_open).low)
            (subst (λ (l : Log). OnOk c.flush.result (StaysElsewhere l.area seen_old seen_new)) same c.flush.ensures.elsewhere)
      ]
    ]
