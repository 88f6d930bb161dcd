-- Lines at the front of bytes.
-- Of two lists of lines that stand there one is a front of the other, and all lines have each such list at their front.
use Rattle.std.proofs.Common.{◌≡◌, ◌≢◌, ℕ, zero, suc, ◌+◌, ◌≤◌, List, [], ◌∷◌, ◌++◌, length, drop, length-drop, refl, ◌⊎◌, inl, inr, ap, sym, ◌∙◌, arith}
use Rattle.std.specs.List.{position_or_len}
use Rattle.trace_text.specs.Lines.{first_line, later_lines, is_newline, AreTraceLines, bytes_behind, AreAllLines}

-- where lines stand, so does each front of them
pub front_lines : (bytes : List ℕ) (xs ys : List (List ℕ)) → AreTraceLines bytes (xs ++ ys) → AreTraceLines bytes xs
front_lines bytes [] ys h = tt
front_lines bytes (x ∷ xs) ys h = (h.0, h.1, front_lines (later_lines bytes) xs ys h.2)

-- the last of lines stands behind the others
pub last_there : (bytes : List ℕ) (lines : List (List ℕ)) (last : List ℕ) → AreTraceLines bytes (lines ++ last ∷ []) → bytes_behind bytes lines ≢ []
last_there bytes [] last h = h.0
last_there bytes (line ∷ lines) last h = last_there (later_lines bytes) lines last h.2

pub last_is : (bytes : List ℕ) (lines : List (List ℕ)) (last : List ℕ) → AreTraceLines bytes (lines ++ last ∷ []) → last ≡ first_line (bytes_behind bytes lines)
last_is bytes [] last h = h.1
last_is bytes (line ∷ lines) last h = last_is (later_lines bytes) lines last h.2

-- a list of lines is a front of all lines
pub front_of_all : (bytes : List ℕ) (xs ys : List (List ℕ)) → AreTraceLines bytes xs → bytes_behind bytes xs ≡ [] → AreTraceLines bytes ys → (more : List (List ℕ)) × (xs ≡ ys ++ more)
front_of_all bytes xs [] h whole k = (xs, refl)
front_of_all bytes [] (y ∷ ys) h whole k = absurd (k.0 whole)
front_of_all bytes (x ∷ xs) (y ∷ ys) h whole k =
    let r = front_of_all (later_lines bytes) xs ys h.2 whole k.2 in
    let first : x ≡ y = h.1 ∙ sym k.1 in
    let rest = r.1 in
    (r.0, (cc))

pub one_whole : (bytes : List ℕ) (xs ys : List (List ℕ)) → AreAllLines bytes xs → AreAllLines bytes ys → xs ≡ ys
one_whole bytes [] [] h k = refl
one_whole bytes [] (y ∷ ys) h k = absurd (k.lines_are.0 h.whole)
one_whole bytes (x ∷ xs) [] h k = absurd (h.lines_are.0 k.whole)
one_whole bytes (x ∷ xs) (y ∷ ys) h k =
    let first : x ≡ y = h.lines_are.1 ∙ sym k.lines_are.1 in
    let rest = one_whole (later_lines bytes) xs ys (record { lines_are = h.lines_are.2; whole = h.whole }) (record { lines_are = k.lines_are.2; whole = k.whole }) in
    cc

-- two lists of lines that each end with one line: they are the same, or one with its end is a front of the other
pub record SameEnd (xs ys : List (List ℕ)) (a b : List ℕ) : Type 0 where
  pub lines : xs ≡ ys
  pub ends : a ≡ b

abbrev pub Behind : List (List ℕ) → List ℕ → List (List ℕ) → Type 0
Behind xs a ys = (more : List (List ℕ)) × (ys ≡ (xs ++ a ∷ []) ++ more)

pub compare_ends : (bytes : List ℕ) (xs ys : List (List ℕ)) (a b : List ℕ) → AreTraceLines bytes (xs ++ a ∷ []) → AreTraceLines bytes (ys ++ b ∷ []) → SameEnd xs ys a b ⊎ (Behind xs a ys ⊎ Behind ys b xs)
compare_ends bytes [] [] a b h k = inl (record { lines = refl; ends = h.1 ∙ sym k.1 })
compare_ends bytes [] (y ∷ ys) a b h k = inr (inl (ys, ap (λ l. l ∷ ys) (k.1 ∙ sym h.1)))
compare_ends bytes (x ∷ xs) [] a b h k = inr (inr (xs, ap (λ l. l ∷ xs) (h.1 ∙ sym k.1)))
compare_ends bytes (x ∷ xs) (y ∷ ys) a b h k =
    let first : x ≡ y = h.1 ∙ sym k.1 in
    elim (compare_ends (later_lines bytes) xs ys a b h.2 k.2) [
      | inl s ↦ let e = s.lines in inl (record { lines = (cc); ends = s.ends })
      | inr (inl s) ↦ let e = s.1 in inr (inl (s.0, (cc)))
      | inr (inr s) ↦ let e = s.1 in inr (inr (s.0, (cc)))
    ]

shorter : (n k b : ℕ) (bs : List ℕ) → length (b ∷ bs) ≤ suc n → length (drop (k + 1) (b ∷ bs)) ≤ n
shorter n k b bs h = omega (arith, length-drop (k + 1) (b ∷ bs))

lines_within : (n : ℕ) (bytes : List ℕ) → length bytes ≤ n → (lines : List (List ℕ)) × AreAllLines bytes lines
lines_within n [] h = ([], record { lines_are = tt; whole = refl })
lines_within zero (b ∷ bs) h = absurd (omega arith)
lines_within (suc n) (b ∷ bs) h =
    let r = lines_within n (later_lines (b ∷ bs)) (shorter n (position_or_len is_newline (b ∷ bs)) b bs h) in
    let filled : b ∷ bs ≢ [] = λ (e : b ∷ bs ≡ []). cc in
    (first_line (b ∷ bs) ∷ r.0, record { lines_are = (filled, refl, r.1.lines_are); whole = r.1.whole })

later_shorter : (k : ℕ) (bytes : List ℕ) → length (drop k bytes) ≤ length bytes
later_shorter k bytes = omega (arith, length-drop k bytes)

-- no more is left behind lines than before them
pub behind_within : (bytes : List ℕ) (lines : List (List ℕ)) → length (bytes_behind bytes lines) ≤ length bytes
behind_within bytes [] = omega arith
behind_within bytes (line ∷ lines) =
    let first : length (later_lines bytes) ≤ length bytes = later_shorter (position_or_len is_newline bytes + 1) bytes in
    omega (arith, behind_within (later_lines bytes) lines)

-- bytes have lines that are all of them
pub all_lines : (bytes : List ℕ) → (lines : List (List ℕ)) × AreAllLines bytes lines
all_lines bytes = lines_within (length bytes) bytes (omega arith)
