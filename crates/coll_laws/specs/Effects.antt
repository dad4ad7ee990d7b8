-- What an operation is on, and what stands there afterwards.
use Rattle.std.specs.Prelude.{ℕ, List, Option, Some, None, option_map}
use Rattle.coll_model.specs.declared.op.Op.{Op}
use Rattle.coll_model.specs.declared.op.Op.TheVariants.{Make, Unmake, Put, Del, Push, Pop}
use Rattle.coll_model.specs.declared.contents.Contents.{Contents}
use Rattle.coll_model.specs.Effect.{fresh, put, del, push, pop}

abbrev pub name_of : Op → List ℕ
name_of (Make name kind) = name
name_of (Unmake name) = name
name_of (Put name key value) = name
name_of (Del name key) = name
name_of (Push name value) = name
name_of (Pop name) = name

-- the contents under the operation's own name, by those before it
abbrev pub after : Op → Option Contents → Option Contents
after (Make name kind) None = Some (fresh kind)
after (Make name kind) (Some contents) = Some contents
after (Unmake name) contents = None
after (Put name key value) contents = option_map (put key value) contents
after (Del name key) contents = option_map (del key) contents
after (Push name value) contents = option_map (push value) contents
after (Pop name) contents = option_map pop contents
