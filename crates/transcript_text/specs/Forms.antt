-- The forms of lines: the word that tells each, and the fields after it. A new form of line is one row in each table here.
use Rattle.std.specs.Prelude.{◌<◌, ◌^◌, ℕ, List, [], ◌∷◌, map, codes, decimal, All, IsTrue}
use Rattle.rc_base.specs.declared.ids.Epoch.{Epoch}
use Rattle.rc_base.specs.declared.ids.TxnId.{TxnId}
use Rattle.coll_model.specs.declared.op.Op.{Op}
use Rattle.script_text.specs.Letters.{is_value_word}
use Rattle.script_text.specs.Sentence.{epoch_text, txn_text, IsEpoch, IsTxn}
use Rattle.order_machine.specs.declared.observation.Observation.{Observation}
use Rattle.order_machine.specs.declared.observation.Observation.TheVariants as says
use Rattle.transcript_text.specs.declared.cause.Cause.{Cause}
use Rattle.transcript_text.specs.declared.cause.Cause.TheVariants as causes
use Rattle.transcript_text.specs.declared.form.Form.{Form}
use Rattle.transcript_text.specs.declared.form.Form.TheVariants as forms
use Rattle.transcript_text.specs.Words.{op_text, IsSaidOp, IsRowWord}

-- ---- fields

-- what one word may be
pub data FieldKind : Type 0 where
  replica : FieldKind
  number : FieldKind
  part : FieldKind
  txn : FieldKind
  epoch : FieldKind
  value : FieldKind

abbrev pub Field : FieldKind → Type 0
Field replica = ℕ
Field number = ℕ
Field part = ℕ
Field txn = TxnId
Field epoch = Epoch
Field value = List ℕ

abbrev pub field_text : (kind : FieldKind) → Field kind → List ℕ
field_text replica r = decimal r
field_text number n = decimal n
field_text part n = decimal n
field_text txn t = txn_text t
field_text epoch e = epoch_text e
field_text value word = word

-- a replica is 0 to 8, and a value is one of a script
abbrev pub IsField : (kind : FieldKind) → Field kind → Type 0
IsField replica r = r < 9
IsField number n = n < 2 ^ 64
IsField part n = n < 2 ^ 8
IsField txn t = IsTxn t
IsField epoch e = IsEpoch e
IsField value word = IsTrue (is_value_word word)

-- ---- layouts

-- which fields stand one after another: at the end there may be any number of operations, or of the words of a row
pub data Layout : Type 0 where
  nothing : Layout
  one : FieldKind → Layout
  first : FieldKind → Layout → Layout
  ops : Layout
  row_words : Layout

abbrev pub Fields : Layout → Type 0
Fields nothing = Unit {0}
Fields (one kind) = Field kind
Fields (first kind more) = Field kind × Fields more
Fields ops = List Op
Fields row_words = List (List ℕ)

abbrev pub fields_words : (layout : Layout) → Fields layout → List (List ℕ)
fields_words nothing fields = []
fields_words (one kind) field = field_text kind field ∷ []
fields_words (first kind more) fields = field_text kind fields.0 ∷ fields_words more fields.1
fields_words ops list = map op_text list
fields_words row_words words = words

abbrev pub AreFields : (layout : Layout) → Fields layout → Type 0
AreFields nothing fields = Unit {0}
AreFields (one kind) field = IsField kind field
AreFields (first kind more) fields = IsField kind fields.0 × AreFields more fields.1
AreFields ops list = All IsSaidOp list
AreFields row_words words = All IsRowWord words

-- ---- what a word tells, and the fields after it

pub record Row (L : Type 0) : Type 0 where
  pub word : List ℕ
  pub layout : L

-- a tag with its fields: a word tells the tag
pub data Tagged {T : Type 0} (Of : T → Type 0) : Type 0 where
  tagged : (tag : T) → Of tag → Tagged Of

abbrev pub tagged_words : {T : Type 0} (Of : T → Type 0) → (T → List ℕ) → ((tag : T) → Of tag → List (List ℕ)) → Tagged Of → List (List ℕ)
tagged_words Of word words (tagged tag fields) = word tag ∷ words tag fields

abbrev pub AreTagged : {T : Type 0} (Of : T → Type 0) → ((tag : T) → Of tag → Type 0) → Tagged Of → Type 0
AreTagged Of Are (tagged tag fields) = Are tag fields

-- ---- causes

-- the word after `ignored`, which tells the cause, and the fields after it
abbrev pub cause_row : Cause → Row Layout
cause_row causes.Up = record { word = codes "up"; layout = nothing }
cause_row causes.OldEpoch = record { word = codes "oldepoch"; layout = first epoch (one epoch) }

abbrev pub cause_word : Cause → List ℕ
cause_word cause = (cause_row cause).word

abbrev pub cause_layout : Cause → Layout
cause_layout cause = (cause_row cause).layout

abbrev pub CauseFields : Cause → Type 0
CauseFields cause = Fields (cause_layout cause)

abbrev pub cause_words : (cause : Cause) → CauseFields cause → List (List ℕ)
cause_words cause fields = fields_words (cause_layout cause) fields

abbrev pub AreCauseFields : (cause : Cause) → CauseFields cause → Type 0
AreCauseFields cause fields = AreFields (cause_layout cause) fields

-- ---- forms

-- what stands after a line's first word: fields, or a cause and its fields
pub data LineLayout : Type 0 where
  plain : Layout → LineLayout
  caused : LineLayout

abbrev pub LineFields : LineLayout → Type 0
LineFields (plain layout) = Fields layout
LineFields caused = Tagged CauseFields

abbrev pub line_fields_words : (layout : LineLayout) → LineFields layout → List (List ℕ)
line_fields_words (plain layout) fields = fields_words layout fields
line_fields_words caused fields = tagged_words CauseFields cause_word cause_words fields

abbrev pub AreLineFields : (layout : LineLayout) → LineFields layout → Type 0
AreLineFields (plain layout) fields = AreFields layout fields
AreLineFields caused fields = AreTagged CauseFields AreCauseFields fields

-- the word that tells a line's form, and the fields after it
abbrev pub form_row : Form → Row LineLayout
form_row forms.Up = record { word = codes "up"; layout = plain (one replica) }
form_row forms.Order = record { word = codes "order"; layout = plain (first txn ops) }
form_row forms.View = record { word = codes "view"; layout = plain (first replica (one number)) }
form_row forms.Active = record { word = codes "active"; layout = plain (one replica) }
form_row forms.Committed = record { word = codes "committed"; layout = plain (one txn) }
form_row forms.Txn = record { word = codes "txn"; layout = plain (one txn) }
form_row forms.Done = record { word = codes "ok"; layout = plain nothing }
form_row forms.Refused = record { word = codes "refused"; layout = plain (one part) }
form_row forms.Down = record { word = codes "down"; layout = plain (one replica) }
form_row forms.NotActive = record { word = codes "notactive"; layout = plain (one replica) }
form_row forms.Ended = record { word = codes "ended"; layout = plain (one txn) }
form_row forms.Locked = record { word = codes "locked"; layout = plain (one txn) }
form_row forms.True = record { word = codes "true"; layout = plain nothing }
form_row forms.False = record { word = codes "false"; layout = plain nothing }
form_row forms.Value = record { word = codes "value"; layout = plain (one value) }
form_row forms.Missing = record { word = codes "none"; layout = plain nothing }
form_row forms.Absent = record { word = codes "absent"; layout = plain nothing }
form_row forms.WrongKind = record { word = codes "wrongkind"; layout = plain nothing }
form_row forms.Fault = record { word = codes "fault"; layout = plain (one replica) }
form_row forms.Ignored = record { word = codes "ignored"; layout = caused }
form_row forms.Progress = record { word = codes "progress"; layout = plain (first replica (first epoch (one number))) }
form_row forms.State = record { word = codes "state"; layout = plain (first replica (one number)) }
form_row forms.Rows = record { word = codes "rows"; layout = plain row_words }

abbrev pub form_word : Form → List ℕ
form_word form = (form_row form).word

abbrev pub form_layout : Form → LineLayout
form_layout form = (form_row form).layout

abbrev pub FormFields : Form → Type 0
FormFields form = LineFields (form_layout form)

abbrev pub form_fields_words : (form : Form) → FormFields form → List (List ℕ)
form_fields_words form fields = line_fields_words (form_layout form) fields

abbrev pub AreFormFields : (form : Form) → FormFields form → Type 0
AreFormFields form fields = AreLineFields (form_layout form) fields

-- ---- observations

-- the form of an observation, and its fields
abbrev pub row_of : Observation → Tagged FormFields
row_of (says.Up r) = tagged forms.Up r
row_of (says.Order t list) = tagged forms.Order (t, list)
row_of (says.View r n) = tagged forms.View (r, n)
row_of (says.Active r) = tagged forms.Active r
row_of (says.Committed t) = tagged forms.Committed t
row_of (says.Txn t) = tagged forms.Txn t
row_of says.Done = tagged forms.Done tt
row_of (says.Refused n) = tagged forms.Refused n
row_of (says.Down r) = tagged forms.Down r
row_of (says.NotActive r) = tagged forms.NotActive r
row_of (says.Ended t) = tagged forms.Ended t
row_of (says.Locked t) = tagged forms.Locked t
row_of says.True = tagged forms.True tt
row_of says.False = tagged forms.False tt
row_of (says.Value word) = tagged forms.Value word
row_of says.Missing = tagged forms.Missing tt
row_of says.Absent = tagged forms.Absent tt
row_of says.WrongKind = tagged forms.WrongKind tt
row_of (says.Fault r) = tagged forms.Fault r
row_of says.IgnoredUp = tagged forms.Ignored (tagged causes.Up tt)
row_of (says.IgnoredOldEpoch fence e) = tagged forms.Ignored (tagged causes.OldEpoch (fence, e))
row_of (says.Progress r e last) = tagged forms.Progress (r, (e, last))
row_of (says.State r k) = tagged forms.State (r, k)
row_of (says.Rows words) = tagged forms.Rows words
