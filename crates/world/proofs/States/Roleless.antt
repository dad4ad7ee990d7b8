-- An open replica whose role ends.
use Rattle.std.proofs.Common.{◌≡◌, ◌∙◌, sym, ap, subst, ℕ, [], true, append-nil, inl}
use Rattle.disk_model.specs.Disk.{Areas}
use Rattle.order_machine.specs.Machine.{Machine, without_role, ended_at}
use Rattle.replica_model.specs.declared.role.Role.{Role}
use Rattle.replica_model.specs.declared.role.Role.TheVariants.{Other, Primary}
use Rattle.replica.specs.Open.{Open, commits_to}
use Rattle.txn_table.specs.Whole.{stable_in}
use Rattle.replica.proofs.Lengthened.{commits_prefix}
use Rattle.world.specs.Course.{IsLogged, IsFence, is_appointed}
use Rattle.world.specs.Standing.{standing, resting}
use Rattle.world.specs.World.{AsRole, Serving, Resting, IsSound}
use Rattle.world.proofs.States.PastTxns.{past_of_runs, past_ended, follow_ended}
use Rattle.world.proofs.Exits.Asides.{shown_by_primary}
use Rattle.world.proofs.States.Logs.{sound_whole, sound_txns}

-- the last record of a primary's log is of the latest epoch
pub serving_logged : (last : ℕ) (r : Open) (images : Areas → Type 0) (m : Machine) (s : Serving last r images m) → IsLogged s.runs.course s.log
serving_logged last r images m s = inl (subst (λ e. is_appointed s.runs.course e ≡ true) (sym (s.is_open.agrees.epoch ∙ s.epoch)) s.ruled.latest)

-- the log of a replica that serves is sound
pub serving_sound : (last : ℕ) (r : Open) (images : Areas → Type 0) (m : Machine) (s : Serving last r images m) → IsSound s.runs.entries s.runs.txns s.runs.course last s.log
serving_sound last r images m s =
    let shows = commits_prefix (stable_in s.log.records) s.log.records in
    sound_whole s.runs.entries s.runs.txns s.runs.course last s.log shows.0 s.commits shows.1 (subst (IsFence s.runs.course) (sym s.is_open.agrees.fence) s.fence) (serving_logged last r images m s) s.short

-- Whatever its role was, it rests then.
pub rests_ended : (role : Role) (last : ℕ) (r : Open) (images : Areas → Type 0) (m : Machine) → r.role ≡ role → AsRole role last r images m → Resting last r images (without_role m 0)
rests_ended Other last r images m is s = record {
  entries = s.entries;
  rests = record {
    acknowledged = s.rests.acknowledged;
    txns = ended_at 0 s.rests.txns;
    course = s.rests.course;
    is = ap (λ n. without_role n 0) s.rests.is;
    ruled = s.rests.ruled;
    past = past_ended s.rests.course s.entries s.rests.acknowledged s.rests.txns s.rests.past;
  };
  log = s.log;
  is_open = s.is_open;
  sound = sound_txns s.entries s.rests.txns (ended_at 0 s.rests.txns) s.rests.course last s.log (λ more f. follow_ended s.entries s.rests.txns more f) s.sound;
  hidden = s.hidden;
  shows = s.shows;
  few = s.few;
}
rests_ended (Primary epoch active) last r images m is s = record {
  entries = s.runs.entries;
  rests = record {
    acknowledged = s.runs.acknowledged;
    txns = ended_at 0 s.runs.txns;
    course = s.runs.course;
    is = ap (λ n. without_role n 0) s.runs.is ∙ ap (λ k. standing s.runs.entries s.runs.acknowledged (resting s.runs.course k) (ended_at 0 s.runs.txns) s.runs.course) (sym s.runs.all_shown);
    ruled = s.ruled;
    past = past_of_runs r.front r.shown r.contents m s.runs;
  };
  log = s.log;
  is_open = s.is_open;
  sound = sound_txns s.runs.entries s.runs.txns (ended_at 0 s.runs.txns) s.runs.course last s.log (λ more f. follow_ended s.runs.entries s.runs.txns more f) (serving_sound last r images m s);
  hidden = [];
  shows = append-nil (commits_to r.stable.0 s.log.records) ∙ (sym (shown_by_primary r s.log epoch active is s.is_open.agrees) ∙ sym s.commits);
  few = s.few;
}
