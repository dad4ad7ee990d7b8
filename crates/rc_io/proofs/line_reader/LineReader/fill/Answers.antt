use Rattle.std.proofs.Common.{List, ℕ, IfOk, subst, ap}
use Rattle.std.specs.Option.{ForSome}
use Rattle.rc_io.specs.Window.{Takes}
use Rattle.rc_io.specs.Reader.{Reading}
use Rattle.rc_io.proofs.line_reader.LineReader.fill.Goals as goal

pub returns-clause-told : goal.returns-clause-told
returns-clause-told g c =
    let P : List ℕ → Type 0 = λ ahead. IfOk c.fill.result (λ n. ForSome (g.S.Source.left c.args.source.now) (λ bytes. Takes n bytes (g.S.Source.left c.fill.new.source) ahead c.fill.new.self)) in
    subst P (ap (λ (r : Reading). r.ahead) c.self.view_is) c.fill.ensures.told
