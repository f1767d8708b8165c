-- The reader's answer is the first pass's, for the room of the shortest columns.
use mathlib.Core.Path.{◌≡◌, refl, ◌∙◌, ap₂}
use mathlib.Core.List.{List}
use Prim.Native.Nat.{ℕ}
use Rattle.std.specs.Prelude.{Result, Ok, Err}
use Rattle.columns.specs.Columns.{Columns}
use Rattle.opb_text.specs.declared.Read.{Read}
use Rattle.opb_text.specs.declared.Refusal.{Refusal}
use Rattle.opb_text.specs.Text.{reading, read_of, result_of, sentence_room, entry_room, Reads}

module _ (text : List ℕ) (old : Columns) {m n : ℕ} {r : Result Read Refusal} (q : r ≡ read_of m n (reading text)) (em : m ≡ sentence_room old)
    (en : n ≡ entry_room old) where
  pub told : r ≡ read_of (sentence_room old) (entry_room old) (reading text)
  told = q ∙ ap₂ (λ (s e : ℕ). read_of s e (reading text)) em en

  pub refused_reply : (e : Refusal) → r ≡ Err e → Reads text old old (Err e)
  refused_reply e h = record { answer = rw (← h) told; kept = refl; filled = tt }

  pub taken_reply : (x : Read) (new : Columns) → r ≡ Ok x → new ≡ result_of (reading text) old → Reads text old new (Ok x)
  taken_reply x new h e = record { answer = rw (← h) told; kept = tt; filled = e }
