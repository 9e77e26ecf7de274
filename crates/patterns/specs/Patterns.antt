-- A pattern: a set of numbered items as bits in bytes. Assumes nothing.
use Rattle.std.specs.Prelude.{◌≡◌, ℕ, zero, suc, ◌+◌, ◌*◌, ◌/◌, ◌%◌, ◌^◌, ◌<◌, Bool, true, cond, ◌&&◌, List, [], ◌∷◌, map, length, ◌==◌, bit_xor, nat_lt, slice_index, slice_set}
use Rattle.std.specs.List.{range_with_len}
use Rattle.patterns.specs.Sets.{Set, tally}

-- bit i of a number
abbrev pub bit : ℕ → Set
bit n i = n / 2 ^ i % 2 == 1

-- item k stands in byte k / 8, at the bit of value 2 ^ (k % 8)
unfoldable pub member : List ℕ → Set
member p k = bit (slice_index p (k / 8)) (k % 8)

-- whether item k has a place: its byte is there
abbrev pub placed : List ℕ → Set
placed p k = nat_lt (k / 8) (length p)

-- item k changed: put in where it was out, taken out where it was in
unfoldable pub toggled : List ℕ → ℕ → List ℕ
toggled p k = slice_set p (k / 8) (bit_xor (slice_index p (k / 8)) (2 ^ (k % 8)))

-- item k taken out, if it was in
abbrev pub cleared : List ℕ → ℕ → List ℕ
cleared p k = cond (member p k) (toggled p k) p

-- each item of the list changed, one after another
abbrev pub toggled_all : List ℕ → List ℕ → List ℕ
toggled_all p [] = p
toggled_all p (k ∷ ks) = toggled_all (toggled p k) ks

-- the bytes that c items take
abbrev pub width : ℕ → ℕ
width c = (c + 7) / 8

-- whether there are just the bytes of c items
abbrev pub fitting : ℕ → List ℕ → Bool
fitting c p = length p == width c

-- whether the bits that follow the last of c items, in its byte, are zero
unfoldable pub tidy : ℕ → List ℕ → Bool
tidy c p = slice_index p (c / 8) / 2 ^ (c % 8) == 0

-- a well-formed pattern of c items
pub record Well (c : ℕ) (p : List ℕ) : Type 0 where
  pub long : fitting c p ≡ true
  pub clean : tidy c p ≡ true

-- the number whose n low bits are the first n of the set
abbrev pub value : ℕ → Set → ℕ
value zero s = 0
value (suc n) s = cond (s n) 1 0 * 2 ^ n + value n s

-- those of the eight items of byte i that are in s and below c
abbrev pub eight : ℕ → Set → ℕ → Set
eight c s i k = nat_lt (i * 8 + k) c && s (i * 8 + k)

-- the pattern of the set s of c items
unfoldable pub pattern : ℕ → Set → List ℕ
pattern c s = map (λ i. value 8 (eight c s i)) (range_with_len 0 (width c))

-- the bytes p with the set s of c items added: the items of s change
unfoldable pub added : ℕ → List ℕ → Set → List ℕ
added c p s = map (λ i. bit_xor (slice_index p i) (value 8 (eight c s i))) (range_with_len 0 (length p))

-- the ones of a byte
unfoldable pub byte_weight : ℕ → ℕ
byte_weight b = tally 8 (bit b)

-- the ones of all bytes
abbrev pub weight : List ℕ → ℕ
weight [] = 0
weight (b ∷ p) = byte_weight b + weight p

-- each is a byte
abbrev pub Bytes : List ℕ → Type 0
Bytes p = (i : ℕ) → i < length p → slice_index p i < 256

-- a well-formed pattern is the pattern of its own members
abbrev pub MembersMakeThePattern : Type 0
MembersMakeThePattern = (c : ℕ) (p : List ℕ) → Well c p → Bytes p → p ≡ pattern c (member p)
