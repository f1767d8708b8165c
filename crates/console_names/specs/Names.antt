-- The names in a line: of a command, of a kind and of a side.
use Rattle.std.specs.Prelude.{cond, ℕ, Option, Some, None, codes, bytes_eq}
use Rattle.console_names.specs.declared.Bare.TheVariants.{Open, Propagate, Trail}
use Rattle.console_names.specs.declared.Name.{Name}
use Rattle.console_names.specs.declared.Name.TheVariants as name
use Rattle.console_names.specs.declared.OfLiteral.TheVariants.{Give, Why, Origin}
use Rattle.console_names.specs.declared.OfNumber.TheVariants.{Back, Bounds, Conflict}
use Rattle.console_words.specs.Words.{Word}

unfoldable pub name_of : Word → Option Name
name_of w =
    cond (bytes_eq w (codes "plan")) (Some name.Plan)
    (cond (bytes_eq w (codes "rule")) (Some name.Rule)
    (cond (bytes_eq w (codes "give")) (Some (name.Literal Give))
    (cond (bytes_eq w (codes "open")) (Some (name.Bare Open))
    (cond (bytes_eq w (codes "propagate")) (Some (name.Bare Propagate))
    (cond (bytes_eq w (codes "back")) (Some (name.Number Back))
    (cond (bytes_eq w (codes "bounds")) (Some (name.Number Bounds))
    (cond (bytes_eq w (codes "why")) (Some (name.Literal Why))
    (cond (bytes_eq w (codes "conflict")) (Some (name.Number Conflict))
    (cond (bytes_eq w (codes "origin")) (Some (name.Literal Origin))
    (cond (bytes_eq w (codes "trail")) (Some (name.Bare Trail)) None))))))))))

-- by document 01's numbers
unfoldable pub kind_of : Word → Option ℕ
kind_of w =
    cond (bytes_eq w (codes "sum")) (Some 0)
    (cond (bytes_eq w (codes "product")) (Some 1)
    (cond (bytes_eq w (codes "count")) (Some 2)
    (cond (bytes_eq w (codes "max")) (Some 3)
    (cond (bytes_eq w (codes "min")) (Some 4) None))))

-- `>=`: side 0, bound ≤ value; `<=`: side 1, value ≤ bound
unfoldable pub side_of : Word → Option ℕ
side_of w = cond (bytes_eq w (codes ">=")) (Some 0) (cond (bytes_eq w (codes "<=")) (Some 1) None)
