-- How observations print. Each has one text: its words, with one space between each two, after its event's number.
use Rattle.std.specs.Prelude.{ℕ, List, [], ◌∷◌, ◌++◌, flat_map, decimal}
use Rattle.std.specs.List.{join_with_byte}
use Rattle.order_machine.specs.declared.observation.Observation.{Observation}
use Rattle.order_machine.specs.Legal.{Step}
use Rattle.transcript_text.specs.Forms.{row_of, FormFields, form_word, form_fields_words, tagged_words}

-- the words of a line after its number: that of its form, and those of its fields
abbrev pub words_of : Observation → List (List ℕ)
words_of observation = tagged_words FormFields form_word form_fields_words (row_of observation)

-- the text of a line without its LF; 32 is a space
abbrev pub line_text : ℕ → Observation → List ℕ
line_text number observation = join_with_byte 32 (decimal number ∷ words_of observation)

-- the lines of an event with their LFs, and those of a run
abbrev pub lines_text : ℕ → List Observation → List ℕ
lines_text number lines = flat_map (λ o. line_text number o ++ 10 ∷ []) lines

abbrev pub transcript_of : List Step → List ℕ
transcript_of steps = flat_map (λ s. lines_text s.number s.lines) steps
