-- The classes of bytes.
use Rattle.std.specs.Prelude.{Bool, cond, ◌&&◌, ◌||◌, ℕ, eqb, leb}
use Rattle.opb_classes.specs.declared.Class.{Class}
use Rattle.opb_classes.specs.declared.Class.TheVariants.{Blank, Digit, Plus, Minus, Star, Ex, Greater, Equal, Semicolon, Other}

abbrev pub line_feed : ℕ
line_feed = 10

abbrev pub return : ℕ
return = 13

abbrev pub digit_zero : ℕ
digit_zero = 48

-- a blank is a space, a tab, a CR or an LF
abbrev pub class_of : ℕ → Class
class_of b =
    cond (eqb b 32 || eqb b 9 || eqb b return || eqb b line_feed) Blank
    (cond (leb digit_zero b && leb b 57) Digit
    (cond (eqb b 43) Plus
    (cond (eqb b 45) Minus
    (cond (eqb b 42) Star
    (cond (eqb b 120) Ex
    (cond (eqb b 62) Greater
    (cond (eqb b 61) Equal
    (cond (eqb b 59) Semicolon Other))))))))

-- ---- the test of a class

abbrev pub place : Class → ℕ
place Blank = 0
place Digit = 1
place Plus = 2
place Minus = 3
place Star = 4
place Ex = 5
place Greater = 6
place Equal = 7
place Semicolon = 8
place Other = 9

abbrev pub is : Class → Class → Bool
is k c = eqb (place k) (place c)
