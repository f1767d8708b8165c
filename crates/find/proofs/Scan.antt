-- What is found at a sentence behind silent ones: its conflict, its head, or the first open entry that turns, since the scan from an entry
-- on comes to what the whole scan says where no entry before it turns.
use mathlib.Core.Path.{◌≡◌, refl, sym, ◌∙◌, ap}
use mathlib.Core.Bool.{Bool, true}
use mathlib.Core.List.{List}
use Prim.Native.Nat.{ℕ, ◌+◌, ◌*◌, ◌-◌, ◌/◌, ◌<◌}
use native.Mathlib.Omega.{arith}
use Rattle.meaning.specs.Meaning as m
use Rattle.area.specs.Layout.{word, entry_at, record_at}
use Rattle.extremes.specs.declared.EntryWords.{EntryWords}
use Rattle.extremes.specs.Inner.Words.{empty_word}
use Rattle.extremes.specs.Inner.Room.{EntryIs}
use Rattle.evaluate.specs.declared.Body.{Body}
use Rattle.evaluate.specs.declared.Known.TheVariants.{Conflict, Forced, Undecided}
use Rattle.evaluate.specs.Inner.Sentence.{said_of}
use Rattle.evaluate.specs.Inner.Words.{wanted_word}
use Rattle.evaluate.specs.Inner.Known.{turns_open}
use Rattle.evaluate.proofs.Loops.{Scanning, scanning_found, scanning_ends}
use Rattle.evaluate.proofs.Puts.{wanted_is}
use Rattle.theory_check.proofs.Scope.{scope_entry}
use Rattle.find.specs.declared.Found.{Found}
use Rattle.find.specs.Inner.Find.{FoundIs}
use Rattle.find.specs.Inner.Asked.{KnownAt}
use Rattle.find.proofs.Speech.{said_by, SilentTo, found_conflict, found_forced}

module _ {w : List ℕ} {n S s : ℕ} (h : s < S) (before : SilentTo w n S s) where
  pub conflict_found : KnownAt w n S s Conflict → FoundIs w n S (Found.Conflict s)
  conflict_found k = found_conflict w n S s h before k.said_is

  pub head_found : (l : ℕ) → KnownAt w n S s (Forced l) → FoundIs w n S (Found.Forced s l 0)
  head_found l k = found_forced w n S s h before l 0 k.said_is (k.word_low l refl) (sym k.placed)

  module _ {x : Body} (k : KnownAt w n S s (Undecided x)) where
    pub scanned_none : {i : ℕ} → Scanning x w n i → i ≡ x.merged → said_by w n S s ≡ m.silent
    scanned_none c e = k.said_is ∙ ap said_of (sym (scanning_ends c e))

    pub entry_found : {i l : ℕ} {b : Bool} {e : EntryWords} → i < x.merged → Scanning x w n i → EntryIs w x.start n i e → b ≡ turns_open x e.weight e.value → b ≡ true
        → l ≡ wanted_word x.up (empty_word x.kind) e.weight e.literal → FoundIs w n S (Found.Forced s l (i + 1))
    entry_found {i} {l} {e = e} inside c r q turned is =
        let g = wanted_is x.up (empty_word x.kind) e.weight e.literal r.real in
        let p = k.placed in
        let back : entry_at w n S (record_at n s) + 2 * (i + 1 - 1) + 1 ≡ x.start + 2 * i + 1 = omega (arith, p.start_is) in
        found_forced w n S s h before l (i + 1) (k.said_is ∙ ap said_of (sym (scanning_found inside p.entries c r q turned is))) (rw is g.real)
        (scope_entry w n S (record_at n s) (omega (arith, p.start_is, p.merged_is, p.entries.inside)) (i + 1) (omega arith) (omega (arith, p.merged_is))
        ∙ ap (λ j. word w j / 2) back ∙ ap (λ y. y / 2) (sym r.literal_is) ∙ sym g.atom ∙ ap (λ y. y / 2) (sym is))
