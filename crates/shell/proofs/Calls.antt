-- What a sentence may hold a world can do.
use Rattle.std.proofs.Common.{ℕ, Bool, true, false, ◌&&◌, List, length, nat_le, IsTrue, refl}
use Rattle.std.specs.List.{list_all}
use Rattle.std.proofs.lemmas.Bool.{false≢true}
use Rattle.log_records.specs.Spelling.{is_key, is_value}
use Rattle.rc_base.specs.Names.{is_name}
use Rattle.script_text.specs.Letters.{is_key_letter, is_key_word, is_value_word}
use Rattle.events.specs.declared.event.Event.{Event}
use Rattle.events.specs.declared.event.Event.TheVariants.{Boot, Client, Arm, Crash, Reboot, Inspect, Survey, Appoint, Activate}
use Rattle.events.specs.declared.call.Call.{Call}
use Rattle.events.specs.declared.call.Call.TheVariants as calls
use Rattle.events.specs.declared.call.KeyCall.{KeyCall}
use Rattle.events.specs.declared.call.KeyCall.TheVariants.{Get, GetForUpdate, Set, Add, Delete}
use Rattle.script_text.specs.Sentence.{IsBuilt, IsBuiltCall, GivesValueWord}
use Rattle.replica_model.specs.Steps.{CallFits, KeyCallFits}
use Rattle.world.specs.World.{IsHere}

first_true : (a b : Bool) → IsTrue (a && b) → IsTrue a
first_true true b h = refl
first_true false b h = h

second_true : (a b : Bool) → IsTrue (a && b) → IsTrue b
second_true true b h = h
second_true false b h = absurd (false≢true h)

-- a key of a sentence is one of a record, and so is a value
key_fits : (text : List ℕ) → IsTrue (is_key_word text) → IsTrue (is_key text)
key_fits text h = first_true (is_key text) (list_all is_key_letter text) h

value_fits : (text : List ℕ) → IsTrue (is_value_word text) → IsTrue (is_value text)
value_fits text h = second_true (nat_le 1 (length text)) (is_value text) (first_true (nat_le 1 (length text) && is_value text) (list_all is_key_letter text) h)

asked_fits : (name key : List ℕ) (asked : KeyCall) → IsTrue (is_name name) → IsTrue (is_key_word key) → GivesValueWord asked → KeyCallFits name key asked
asked_fits name key Get n k given = tt
asked_fits name key GetForUpdate n k given = tt
asked_fits name key (Set value) n k given = (n, key_fits key k, value_fits value given)
asked_fits name key (Add value) n k given = (n, key_fits key k, value_fits value given)
asked_fits name key Delete n k given = (n, key_fits key k)

call_fits : (call : Call) → IsBuiltCall call → CallFits call
call_fits calls.Begin h = tt
call_fits (calls.Make t name kind) h = h.1
call_fits (calls.OnKey t name key asked) h = asked_fits name key asked h.1 h.2 h.3
call_fits (calls.Commit t) h = tt
call_fits (calls.Abort t) h = tt

pub here : (event : Event) → IsBuilt event → IsHere event
here (Boot p members) h = h
here (Client r call) h = (h.0, call_fits call h.1)
here (Arm r calls) h = (h.0, h.1)
here (Crash r pick) h = h.0
here (Reboot r) h = h
here (Inspect r) h = h
here (Survey r e) h = h.0
here (Appoint e p members) h = (h.1, h.2)
here (Activate e) h = tt
