-- Operations.
use Rattle.std.proofs.Common.{◌≡◌, ℕ, lit<, cond, eqb, List, [], ◌∷◌, Err, refl, subst}
use Rattle.std.specs.Int.{w8}
use Rattle.rc_base.specs.Fields.{Reader}
use Rattle.coll_model.specs.declared.op.Op.{Op}
use Rattle.coll_model.specs.declared.op.Op.TheVariants.{Make, Unmake, Put, Del, Push, Pop}
use Rattle.log_records.specs.Spelling.{byte, name, string, kind, op, OpFits}
use Rattle.log_records.specs.Reading.{read_number, read_name, read_key, read_value, read_kind, read_make, read_unmake, read_put, read_del, read_push, read_pop, read_op}
use Rattle.log_records.proofs.Steps.{Step, Takes, Again, Branch, bind_ok, one_takes, one_again, two_takes, two_again, three_takes, three_again, pick, nothing}
use Rattle.log_records.proofs.FieldCodec.{IsName, IsKey, IsValue, names, strings, kinds_of, tag_takes, tag_again, name_takes, name_again, key_takes, key_again, value_takes, value_again, kind_takes, kind_again}

make_branch : Branch read_make 1 op OpFits
unfolding read_make
make_branch r x after small e =
    let m = two_takes read_name names IsName read_kind kinds_of (λ k. Unit {0}) Make name_takes kind_takes r x after small e in
    subst (λ (y : Op). OpFits y × (body : List (List ℕ)) × (op y ≡ byte 1 ∷ body) × Step r body after) m.2 (m.3, name m.0 ∷ kind m.1 ∷ [], refl, m.5)

unmake_branch : Branch read_unmake 2 op OpFits
unfolding read_unmake
unmake_branch r x after small e =
    let m = one_takes read_name names IsName Unmake name_takes r x after small e in
    subst (λ (y : Op). OpFits y × (body : List (List ℕ)) × (op y ≡ byte 2 ∷ body) × Step r body after) m.1 (m.2, name m.0 ∷ [], refl, m.3)

put_branch : Branch read_put 3 op OpFits
unfolding read_put
put_branch r x after small e =
    let m = three_takes read_name names IsName read_key strings IsKey read_value strings IsValue Put name_takes key_takes value_takes r x after small e in
    subst (λ (y : Op). OpFits y × (body : List (List ℕ)) × (op y ≡ byte 3 ∷ body) × Step r body after) m.3 ((m.4, m.5, m.6), name m.0 ∷ string m.1 ∷ string m.2 ∷ [], refl, m.7)

del_branch : Branch read_del 4 op OpFits
unfolding read_del
del_branch r x after small e =
    let m = two_takes read_name names IsName read_key strings IsKey Del name_takes key_takes r x after small e in
    subst (λ (y : Op). OpFits y × (body : List (List ℕ)) × (op y ≡ byte 4 ∷ body) × Step r body after) m.2 ((m.3, m.4), name m.0 ∷ string m.1 ∷ [], refl, m.5)

push_branch : Branch read_push 5 op OpFits
unfolding read_push
push_branch r x after small e =
    let m = two_takes read_name names IsName read_value strings IsValue Push name_takes value_takes r x after small e in
    subst (λ (y : Op). OpFits y × (body : List (List ℕ)) × (op y ≡ byte 5 ∷ body) × Step r body after) m.2 ((m.3, m.4), name m.0 ∷ string m.1 ∷ [], refl, m.5)

pop_branch : Branch read_pop 6 op OpFits
unfolding read_pop
pop_branch r x after small e =
    let m = one_takes read_name names IsName Pop name_takes r x after small e in
    subst (λ (y : Op). OpFits y × (body : List (List ℕ)) × (op y ≡ byte 6 ∷ body) × Step r body after) m.1 (m.2, name m.0 ∷ [], refl, m.3)

pub op_takes : Takes read_op op OpFits
unfolding read_op
op_takes r x after small e =
    let t = bind_ok (read_number w8 r) (λ (tag : ℕ × Reader). cond (eqb tag.0 1) (read_make tag.1) (cond (eqb tag.0 2) (read_unmake tag.1) (cond (eqb tag.0 3) (read_put tag.1) (cond (eqb tag.0 4) (read_del tag.1) (cond (eqb tag.0 5) (read_push tag.1) (cond (eqb tag.0 6) (read_pop tag.1) (Err r.place))))))) (x, after) e in
    let s = tag_takes r t.0.0 t.0.1 small t.1 in
    pick read_make 1 op OpFits make_branch r t.0.1 after x t.0.0 s (cond (eqb t.0.0 2) (read_unmake t.0.1) (cond (eqb t.0.0 3) (read_put t.0.1) (cond (eqb t.0.0 4) (read_del t.0.1) (cond (eqb t.0.0 5) (read_push t.0.1) (cond (eqb t.0.0 6) (read_pop t.0.1) (Err r.place))))))
    (λ e1. pick read_unmake 2 op OpFits unmake_branch r t.0.1 after x t.0.0 s (cond (eqb t.0.0 3) (read_put t.0.1) (cond (eqb t.0.0 4) (read_del t.0.1) (cond (eqb t.0.0 5) (read_push t.0.1) (cond (eqb t.0.0 6) (read_pop t.0.1) (Err r.place)))))
    (λ e2. pick read_put 3 op OpFits put_branch r t.0.1 after x t.0.0 s (cond (eqb t.0.0 4) (read_del t.0.1) (cond (eqb t.0.0 5) (read_push t.0.1) (cond (eqb t.0.0 6) (read_pop t.0.1) (Err r.place))))
    (λ e3. pick read_del 4 op OpFits del_branch r t.0.1 after x t.0.0 s (cond (eqb t.0.0 5) (read_push t.0.1) (cond (eqb t.0.0 6) (read_pop t.0.1) (Err r.place)))
    (λ e4. pick read_push 5 op OpFits push_branch r t.0.1 after x t.0.0 s (cond (eqb t.0.0 6) (read_pop t.0.1) (Err r.place))
    (λ e5. pick read_pop 6 op OpFits pop_branch r t.0.1 after x t.0.0 s (Err r.place)
    (λ e6. nothing r.place x after e6) e5) e4) e3) e2) e1) t.2

pub op_again : Again read_op op OpFits
unfolding read_op read_make read_unmake read_put read_del read_push read_pop
op_again r (Make n k) rest fits e =
    let tag = tag_again r 1 (name n ∷ kind k ∷ []) rest (lit< tt) e in
    let m = two_again read_name names IsName read_kind kinds_of (λ k. Unit {0}) Make name_again kind_again tag.0 n k rest fits tt tag.2 in
    (m.0, rw tag.1 m.1, m.2)
op_again r (Unmake n) rest fits e =
    let tag = tag_again r 2 (name n ∷ []) rest (lit< tt) e in
    let m = one_again read_name names IsName Unmake name_again tag.0 n rest fits tag.2 in
    (m.0, rw tag.1 m.1, m.2)
op_again r (Put n k v) rest fits e =
    let tag = tag_again r 3 (name n ∷ string k ∷ string v ∷ []) rest (lit< tt) e in
    let m = three_again read_name names IsName read_key strings IsKey read_value strings IsValue Put name_again key_again value_again tag.0 n k v rest fits.0 fits.1 fits.2 tag.2 in
    (m.0, rw tag.1 m.1, m.2)
op_again r (Del n k) rest fits e =
    let tag = tag_again r 4 (name n ∷ string k ∷ []) rest (lit< tt) e in
    let m = two_again read_name names IsName read_key strings IsKey Del name_again key_again tag.0 n k rest fits.0 fits.1 tag.2 in
    (m.0, rw tag.1 m.1, m.2)
op_again r (Push n v) rest fits e =
    let tag = tag_again r 5 (name n ∷ string v ∷ []) rest (lit< tt) e in
    let m = two_again read_name names IsName read_value strings IsValue Push name_again value_again tag.0 n v rest fits.0 fits.1 tag.2 in
    (m.0, rw tag.1 m.1, m.2)
op_again r (Pop n) rest fits e =
    let tag = tag_again r 6 (name n ∷ []) rest (lit< tt) e in
    let m = one_again read_name names IsName Pop name_again tag.0 n rest fits tag.2 in
    (m.0, rw tag.1 m.1, m.2)
