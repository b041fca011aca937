-- Numbers in lists of bytes. Assumes nothing.
use Rattle.std.specs.Prelude.{Bool, List, [], ◌∷◌, reverse, ℕ, zero, suc, ◌+◌, ◌*◌, ◌/◌, ◌%◌, ◌<◌, take, drop, get_or}
use Rattle.words.specs.Bits.{bit}

-- every number of a list is below a bound
pub data Below (k : ℕ) : List ℕ → Type 0 where
  empty : Below k []
  more : {x : ℕ} {l : List ℕ} → x < k → Below k l → Below k (x ∷ l)

-- byte i of a list, 0 past its end
abbrev pub byte : List ℕ → ℕ → ℕ
byte l i = get_or l i 0

-- bit k of the register at place i, which has its lowest byte first
unfoldable pub bit_at : List ℕ → ℕ → ℕ → Bool
bit_at l i k = bit (byte l (i + k / 8)) (k % 8)

-- the number whose n bytes are f i, f (i + 1), .., the lowest first
unfoldable pub number : (ℕ → ℕ) → ℕ → ℕ → ℕ
number f i zero = 0
number f i (suc n) = f i + 256 * number f (suc i) n

-- the numbers of two, four and eight bytes from place i on
unfoldable pub word16 : List ℕ → ℕ → ℕ
word16 l i = number (byte l) i 2

unfoldable pub word32 : List ℕ → ℕ → ℕ
word32 l i = number (byte l) i 4

unfoldable pub word64 : List ℕ → ℕ → ℕ
word64 l i = number (byte l) i 8

-- the numbers of two and four bytes from place i on, the highest byte first
abbrev pub high16 : List ℕ → ℕ → ℕ
high16 l i = byte l i * 256 + byte l (i + 1)

abbrev pub high32 : List ℕ → ℕ → ℕ
high32 l i = high16 l i * 65536 + high16 l (i + 2)

-- n numbers of four bytes, one behind another
unfoldable pub words32 : ℕ → List ℕ → List ℕ
words32 zero l = []
words32 (suc n) l = word32 l 0 ∷ words32 n (drop 4 l)

-- a number's n low bytes, the lowest first, and the highest first
unfoldable pub bytes_of : ℕ → ℕ → List ℕ
bytes_of zero x = []
bytes_of (suc n) x = x % 256 ∷ bytes_of n (x / 256)

unfoldable pub bytes_high : ℕ → ℕ → List ℕ
bytes_high n x = reverse (bytes_of n x)

-- the n bytes from place i on
unfoldable pub part : ℕ → ℕ → List ℕ → List ℕ
part i n l = take n (drop i l)

-- each place of a list holds a byte
abbrev pub Bytes : List ℕ → Type 0
Bytes l = (i : ℕ) → byte l i < 256
