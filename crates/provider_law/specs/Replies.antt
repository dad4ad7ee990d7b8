-- What a collection replies, and which rows are those of one.
use Rattle.std.specs.Prelude.{◌≡◌, ℕ, List, length, Option, Some, None, slice_get}
use Rattle.std.specs.Ordering.{nat_cmp}
use Rattle.std.specs.Cmp.Lexicographic.{slice_cmp}
use Rattle.std.specs.List.Sorted.{IsStrictlySortedBy}
use Rattle.std.specs.Map.{keys_of}
use Rattle.coll_model.specs.declared.op.Kind.{Kind}
use Rattle.coll_model.specs.declared.op.Kind.TheVariants as kinds
use Rattle.coll_model.specs.declared.contents.Contents.{Contents}
use Rattle.coll_model.specs.declared.contents.Contents.TheVariants.{Dict, Queue}
use Rattle.coll_model.specs.declared.rows.Rows.{Rows as RowsValue}
use Rattle.coll_model.specs.declared.rows.Rows.TheVariants.{Pairs, Values}
use Rattle.coll_model.specs.Effect.{at_key}
use Rattle.coll_model.specs.Rows.{rows_of, kind_of_rows}
use Rattle.provider_law.specs.declared.ask.Ask.{Ask}
use Rattle.provider_law.specs.declared.ask.Ask.TheVariants.{Get, Count, List as ListAll, Item}
use Rattle.provider_law.specs.declared.ask.Reply.{Reply}
use Rattle.provider_law.specs.declared.ask.Reply.TheVariants as replies

-- a value, where there is one
abbrev pub value_reply : Option (List ℕ) → Reply
value_reply None = replies.Missing
value_reply (Some value) = replies.Value value

abbrev pub get_reply : List ℕ → Contents → Reply
get_reply key (Dict pairs) = value_reply (at_key key pairs)
get_reply key (Queue values) = replies.Missing

abbrev pub item_reply : ℕ → Contents → Reply
item_reply place (Dict pairs) = replies.Missing
item_reply place (Queue values) = value_reply (slice_get values place)

-- how many items there are
abbrev pub count_of : Contents → ℕ
count_of (Dict pairs) = length pairs
count_of (Queue values) = length values

-- what is replied over these contents
abbrev pub reply_of : Contents → Ask → Reply
reply_of contents (Get key) = get_reply key contents
reply_of contents Count = replies.Count (count_of contents)
reply_of contents ListAll = replies.Rows (rows_of contents)
reply_of contents (Item place) = item_reply place contents

-- The rows are those of a collection of the kind: the keys of a dictionary rise.
abbrev pub AreRows : Kind → RowsValue → Type 0
AreRows kind (Pairs pairs) = (kind ≡ kinds.Dict) × IsStrictlySortedBy (slice_cmp nat_cmp) (keys_of pairs)
AreRows kind (Values values) = kind ≡ kinds.Queue

-- what has these rows
abbrev pub contents_of : RowsValue → Contents
contents_of (Pairs pairs) = Dict pairs
contents_of (Values values) = Queue values
