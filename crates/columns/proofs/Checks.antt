-- Worked rows of load's table, which compute: each refusal and the case that just misses it. They stand on the definitions alone.
use mathlib.Core.Bool.{◌&&◌}
use mathlib.Core.List.{List, [], ◌∷◌}
use Prim.Native.Nat.{ℕ}
use lib.IntN.{ℤ, pos, negsuc}
use lib.ListN.{length}
use lib.Dec.{T, eqb}
use Rattle.types.specs.Limits.{document}
use Rattle.decide.specs.Below.{sum_first}
use Rattle.meaning.specs.Merge.{put, collect}
use Rattle.meaning.proofs.Checks.{every}
use Rattle.columns.specs.Columns.{Columns, seven_columns, paired, written_from}
use Rattle.columns.specs.Refusals.{some_entry, both_signs, all_refusals, first_refusal, load_answer}
use Rattle.columns.specs.declared.Answer.{Answer}

record Row : Type 0 where
  words : ℕ
  atoms : ℕ
  given : Columns
  code : ℕ
  sentence : ℕ

-- one sentence, bound 5 and side 0
single : ℕ → ℕ → List ℤ → List ℤ → Columns
single head kind ws ls = seven_columns (head ∷ []) (kind ∷ []) (0 ∷ []) (pos 5 ∷ []) (length ls ∷ []) ws ls

bounded : ℤ → Columns
bounded b = seven_columns (3 ∷ []) (0 ∷ []) (0 ∷ []) (b ∷ []) (0 ∷ []) [] []

two : ℕ → ℕ → ℕ → Columns
two kind first second = seven_columns (3 ∷ 4 ∷ []) (0 ∷ kind ∷ []) (0 ∷ 1 ∷ []) (pos 5 ∷ pos 5 ∷ []) (first ∷ second ∷ []) (pos 1 ∷ []) (negsuc 0 ∷ [])

row : ℕ → ℕ → Columns → ℕ → ℕ → Row
row words atoms given code sentence = record { words = words; atoms = atoms; given = given; code = code; sentence = sentence }

rows : List Row
rows = row 4 1 (seven_columns [] [] [] [] [] [] []) 0 0 ∷ row 3 1 (seven_columns [] [] [] [] [] [] []) 2 0 ∷ row 4096 1024 (seven_columns [] [] [] [] [] [] []) 0 0
    ∷ row 9999 0 (seven_columns [] [] [] [] [] [] []) 1 0 ∷ row 9999 1025 (seven_columns [] [] [] [] [] [] []) 1 0
    ∷ row 9999 18446744073709551615 (seven_columns [] [] [] [] [] [] []) 1 0 ∷ row 9999 4 (seven_columns (3 ∷ []) [] [] [] [] [] []) 1 0
    ∷ row 34 4 (two 4 1 0) 0 0 ∷ row 34 4 (two 5 1 0) 3 2 ∷ row 33 4 (two 5 1 0) 2 0 ∷ row 34 4 (two 4 1 1) 1 0
    ∷ row 34 4 (two 4 18446744073709551615 2) 1 0
    ∷ row 99 4 (single 5 0 (pos 1 ∷ []) (pos 1 ∷ [])) 4 1 ∷ row 99 4 (single 3 0 (pos 1 ∷ []) (negsuc 3 ∷ [])) 0 0
    ∷ row 99 4 (single 3 0 (pos 1 ∷ []) (negsuc 4 ∷ [])) 4 1 ∷ row 99 4 (single 3 0 (pos 1 ∷ []) (pos 0 ∷ [])) 4 1
    ∷ row 99 4 (single 3 0 (pos 1000000000 ∷ []) (pos 1 ∷ [])) 0 0 ∷ row 99 4 (single 3 0 (pos 1000000001 ∷ []) (pos 1 ∷ [])) 5 1
    ∷ row 99 4 (single 3 3 (negsuc 9223372036854775807 ∷ []) (pos 1 ∷ [])) 5 1
    ∷ row 99 4 (single 3 1 (pos 0 ∷ []) (pos 1 ∷ [])) 5 1 ∷ row 99 4 (single 3 2 (pos 2 ∷ []) (pos 1 ∷ [])) 5 1
    ∷ row 99 4 (bounded (negsuc 999999999999999999)) 0 0 ∷ row 99 4 (bounded (negsuc 1000000000000000000)) 5 1
    ∷ row 99 4 (bounded (negsuc 9223372036854775807)) 5 1 ∷ row 99 4 (bounded (pos 1000000000000000001)) 5 1
    ∷ row 99 4 (single 3 4 (pos 1 ∷ pos 1 ∷ pos 1 ∷ []) (pos 1 ∷ negsuc 0 ∷ negsuc 2 ∷ [])) 6 1
    ∷ row 99 4 (single 3 4 (pos 1 ∷ pos 1 ∷ []) (pos 1 ∷ negsuc 0 ∷ [])) 7 1 ∷ row 99 4 (single 3 2 (pos 1 ∷ pos 1 ∷ []) (pos 1 ∷ negsuc 0 ∷ [])) 0 0
    ∷ row 99 4 (single 3 1 (pos 1000000000 ∷ pos 1000000000 ∷ []) (pos 1 ∷ pos 2 ∷ [])) 0 0
    ∷ row 99 4 (single 3 1 (pos 1000000000 ∷ pos 1000000000 ∷ pos 2 ∷ []) (pos 1 ∷ pos 1 ∷ pos 2 ∷ [])) 8 1 ∷ []

answered : Row → Answer
answered r = load_answer document r.words r.atoms r.given

rows_pass : T (every (λ r. eqb (answered r).code r.code && eqb (answered r).sentence.0 r.sentence) rows)
unfolding single bounded two row rows answered paired written_from some_entry both_signs all_refusals first_refusal sum_first put collect
rows_pass = tt
