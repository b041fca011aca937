-- A row of the table, read from its characters. Assumes nothing.
use Rattle.std.specs.Prelude.{cond, List, ℕ, ◌+◌, ◌-◌, ◌*◌, ◌%◌, leb, eqb}
use Rattle.words.specs.Bytes.{byte}
use Rattle.model.specs.declared.Answer.{Answer}
use Rattle.model.specs.declared.Answer.TheVariants.{Refused, Done, Value, Sent, Held, Merged, Lost}
use Rattle.cases.specs.declared.row.Kind.{Kind}
use Rattle.cases.specs.declared.row.Kind.TheVariants.{New, Start, Read, Write, BarRead, BarWrite, Event, Line, Image, Keep, Compare}
use Rattle.cases.specs.declared.row.Shown.{Shown}
use Rattle.cases.specs.declared.row.Shown.TheVariants.{Nothing, State, Verdict}
use Rattle.cases.specs.declared.row.Row.{Row}

-- a hexadecimal digit in ASCII; below the digits 0
unfoldable pub digit_of : ℕ → ℕ
digit_of b = cond (leb 65 b) ((b - 55) % 16) (cond (leb 48 b) ((b - 48) % 16) 0)

-- numbers of two and three decimal digits, and of two, four and eight hexadecimal ones
abbrev pub decimal2 : List ℕ → ℕ → ℕ
decimal2 l i = digit_of (byte l i) * 10 + digit_of (byte l (i + 1))

abbrev pub decimal3 : List ℕ → ℕ → ℕ
decimal3 l i = digit_of (byte l i) * 100 + decimal2 l (i + 1)

abbrev pub hex2 : List ℕ → ℕ → ℕ
hex2 l i = digit_of (byte l i) * 16 + digit_of (byte l (i + 1))

abbrev pub hex4 : List ℕ → ℕ → ℕ
hex4 l i = hex2 l i * 256 + hex2 l (i + 2)

abbrev pub hex8 : List ℕ → ℕ → ℕ
hex8 l i = hex4 l i * 65536 + hex4 l (i + 4)

-- what a row does, by its letter: n, s, r, w, R, W, e, l, k, c, or an image
abbrev pub kind_of : ℕ → Kind
kind_of letter =
    cond (eqb letter 110) New
    (cond (eqb letter 115) Start
    (cond (eqb letter 114) Read
    (cond (eqb letter 119) Write
    (cond (eqb letter 82) BarRead
    (cond (eqb letter 87) BarWrite
    (cond (eqb letter 101) Event (cond (eqb letter 108) Line (cond (eqb letter 107) Keep (cond (eqb letter 99) Compare Image)))))))))

-- what is shown after it: s, v, or nothing
abbrev pub shown_of : ℕ → Shown
shown_of letter = cond (eqb letter 115) State (cond (eqb letter 118) Verdict Nothing)

-- the answer by its letter: s, h, m, l, v, r, or d
abbrev pub answer_by : (letter value refusal : ℕ) → Answer
answer_by letter value refusal =
    cond (eqb letter 115) Sent
    (cond (eqb letter 104) Held
    (cond (eqb letter 109) Merged
    (cond (eqb letter 108) Lost (cond (eqb letter 118) (Value value) (cond (eqb letter 114) (Refused refusal) Done)))))

abbrev pub row_of : List ℕ → Row
row_of l =
    record {
      number = decimal2 l 0;
      kind = kind_of (byte l 3);
      a = hex4 l 9;
      b = decimal3 l 14;
      c = hex8 l 18;
      answer = answer_by (byte l 27) (hex8 l 18) (decimal2 l 32);
      place = hex4 l 35;
      size = decimal3 l 40;
      shown = shown_of (byte l 44);
    }
