use Rattle.std.proofs.Common.{◌≡◌, ◌∙◌, ◌+◌, Some, None, sym}
use Rattle.std.proofs.lemmas.Result.{IfOk-weaker, on_ok_weaker}
use Rattle.events.specs.declared.answer.Answer.TheVariants as answers
use Rattle.events.specs.Answers.{plain}
use Rattle.events.specs.Calls.{txn_named}
use Rattle.txn_front.specs.Front.{txn_at, told, called, begun, AreAlike, IsOver}
use Rattle.txn_front.proofs.Fronts.{told_begin, called_begin, AreAlike-from_same, IsOver-called, IsOver-alike}
use Rattle.txn_front.proofs.front.Front.call.Goals as goal

pub returns-in-None : goal.returns-in-None
returns-in-None c =
    let f = c.args.self.now in
    let state = c.args.state.now in
    let call = c.args.call.now in
    let g = c.begin.new.self in
    let begins : txn_named call ≡ None = sym c.txn.ensures ∙ c.in-None.is in
    let same : g ≡ begun f → AreAlike g (called f state call) = λ e. AreAlike-from_same g (called f state call) (e ∙ sym (called_begin f state call begins)) in
    record {
      told = IfOk-weaker c.begin.result (λ reply. reply ≡ Some (plain (answers.Txn (txn_at f (f.begins + 1))))) (λ reply. reply ≡ told f state call)
          (λ reply e. e ∙ sym (told_begin f state call begins)) c.begin.ensures.told;
      kept = on_ok_weaker {P = g ≡ begun f} {Q = AreAlike g (called f state call)} c.begin.result same c.begin.ensures.kept;
      over = on_ok_weaker {P = g ≡ begun f} {Q = IsOver g state} c.begin.result
          (λ e. IsOver-alike g (called f state call) state (same e) (IsOver-called f state call c.requires.over)) c.begin.ensures.kept;
    }

pub returns-in-Some : goal.returns-in-Some
returns-in-Some c =
    let f = c.args.self.now in
    let state = c.args.state.now in
    let call = c.args.call.now in
    let g = c.asked.new.self in
    record {
      told = c.asked.ensures.told;
      kept = c.asked.ensures.kept;
      over = on_ok_weaker {P = AreAlike g (called f state call)} {Q = IsOver g state} c.asked.result
          (λ h. IsOver-alike g (called f state call) state h (IsOver-called f state call c.requires.over)) c.asked.ensures.kept;
    }
