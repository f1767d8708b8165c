-- What the program's parts leave.
use Rattle.std.specs.Prelude.{ℕ, ◌+◌}
use Rattle.types.specs.Limits.{document}
use Rattle.columns.specs.Columns.{Columns, all_written}
use Rattle.columns.specs.Refusals.{load_answer}
use Rattle.pages.specs.declared.Page.{Page}
use Rattle.pages.specs.Page.{Puts}
use Rattle.listing.specs.Output.{area_words, judged_sentences, answered}

-- what is printed for the columns' sentences
abbrev pub Answers : Page → Page → ℕ → ℕ → Columns → Type 0
Answers old new v c xs = Puts old new (answered v c (judged_sentences (all_written xs)) (load_answer document area_words (v + c) xs))
