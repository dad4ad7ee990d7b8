-- The rows of a collection are of its kind.
use Rattle.std.proofs.Common.{◌≡◌, refl}
use Rattle.coll_model.specs.declared.contents.Contents.{Contents}
use Rattle.coll_model.specs.declared.contents.Contents.TheVariants.{Dict, Queue}
use Rattle.coll_model.specs.Effect.{kind_of}
use Rattle.coll_model.specs.Rows.{rows_of, kind_of_rows}

pub kind_of_rows_of : (c : Contents) → kind_of_rows (rows_of c) ≡ kind_of c
kind_of_rows_of (Dict pairs) = refl
kind_of_rows_of (Queue values) = refl
