-- What stands in the way of a call on a key of a dictionary.
use Rattle.std.specs.Prelude.{ℕ, List, Option, Some, None, option_map}
use Rattle.std.specs.Option.{option_map_or}
use Rattle.rc_base.specs.declared.ids.TxnId.{TxnId}
use Rattle.coll_model.specs.declared.op.Kind.{Kind}
use Rattle.coll_model.specs.declared.op.Kind.TheVariants.{Dict, Queue}
use Rattle.key_locks.specs.declared.lock_name.LockName.TheVariants.{Name, Key}
use Rattle.key_locks.specs.declared.lock_mode.LockMode.{LockMode}
use Rattle.key_locks.specs.declared.lock_mode.LockMode.TheVariants.{Shared}
use Rattle.key_locks.specs.Grants.{Grant, conflict, granted}
use Rattle.events.specs.declared.answer.Answer.{Answer}
use Rattle.events.specs.declared.answer.Answer.TheVariants as answers

-- what stands in the way after the lock on the name
abbrev pub refused : List Grant → TxnId → List ℕ → List ℕ → LockMode → Option Kind → Option Answer
refused grants t name key mode None = Some answers.Absent
refused grants t name key mode (Some Queue) = Some answers.WrongKind
refused grants t name key mode (Some Dict) = option_map (λ by. answers.Locked by) (conflict grants t (Key name key) mode)

-- what stands in the way, with the kind of what is seen under the name
abbrev pub refusal : List Grant → TxnId → List ℕ → List ℕ → LockMode → Option Kind → Option Answer
refusal grants t name key mode kind =
    option_map_or (λ by. Some (answers.Locked by)) (conflict grants t (Name name) Shared) (refused (granted grants t (Name name) Shared) t name key mode kind)
