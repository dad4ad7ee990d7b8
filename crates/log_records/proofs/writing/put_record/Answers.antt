use Rattle.std.proofs.Common.{◌≡◌, ℕ, List, [], ◌∷◌, ◌++◌, sym, subst}
use Rattle.std.specs.Prelude.{OnOk}
use Rattle.std.proofs.lemmas.List.{append-nil}
use Rattle.log_records.specs.Spelling.{byte, long, flag, txn, op}
use Rattle.log_records.proofs.Appending.{more, last}
use Rattle.log_records.proofs.writing.put_record.Goals as goal

pub returns-in_ok-put_u8-in-Begin : goal.returns-in_ok-put_u8-in-Begin
returns-in_ok-put_u8-in-Begin c = rw c.in-Begin.is (last _ _ _ _ (byte 16 ∷ []) (txn c.in-Begin.txn) c.in_ok-put_u8-in-Begin.ensures.ok c.put_txn.ensures)

pub returns-in_ok-put_u64-in-Operation : goal.returns-in_ok-put_u64-in-Operation
returns-in_ok-put_u64-in-Operation c =
    let t = txn c.in-Operation.txn in
    let prev = long c.in-Operation.prev.0 in
    let a = more _ _ _ (byte 17 ∷ []) t c.in_ok-put_u8-in-Operation.ensures.ok c.in_ok-put_txn-in-Operation.ensures in
    let b = more _ _ _ (byte 17 ∷ t) (prev ∷ []) a c.in_ok-put_u64-in-Operation.ensures.ok in
    rw c.in-Operation.is (last _ _ _ _ (byte 17 ∷ (t ++ prev ∷ [])) (op c.in-Operation.op) b c.put_op.ensures)

pub returns-in_ok-put_u64-in-End : goal.returns-in_ok-put_u64-in-End
returns-in_ok-put_u64-in-End c =
    let t = txn c.in-End.txn in
    let prev = long c.in-End.prev.0 in
    let a = more _ _ _ (byte 18 ∷ []) t c.in_ok-put_u8-in-End.ensures.ok c.in_ok-put_txn-in-End.ensures in
    let b = more _ _ _ (byte 18 ∷ t) (prev ∷ []) a c.in_ok-put_u64-in-End.ensures.ok in
    rw c.in-End.is (last _ _ _ _ (byte 18 ∷ (t ++ prev ∷ [])) (flag c.in-End.committed ∷ []) b (subst (λ (f : List ℕ). OnOk c.put_flag.result (c.put_flag.new.out.items ≡ c.put_u64-in-End.new.out.items ++ f)) (sym (append-nil (flag c.in-End.committed))) c.put_flag.ensures))
