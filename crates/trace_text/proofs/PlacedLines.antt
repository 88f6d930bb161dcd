-- The place behind lines.
-- As many newlines as lines stand before it where something is left behind them, and its distance from the end is the length of what is left.
use Rattle.std.proofs.Common.{◌≡◌, ◌≢◌, ℕ, suc, ◌+◌, ◌-◌, List, [], ◌∷◌, ◌++◌, length, take, drop, Bool, true, false, cond, not, refl, ap, sym, ◌∙◌, subst, arith}
use Rattle.std.proofs.Common.{zero-add, append_assoc, length-append, length-drop}
use Rattle.std.specs.Prelude.{count_by}
use Rattle.std.specs.List.{position_or_len}
use Rattle.std.proofs.Math.Seq.{take-append_seam, drop-append_seam}
use Rattle.std.proofs.lemmas.List.Sums.{sum_by-append, sum_by-cons}
use Rattle.trace_text.specs.Lines.{is_newline, first_line, later_lines, AreTraceLines, bytes_behind}
use Rattle.trace_text.specs.working.Readings.{IsPlace}
use Rattle.fir_base.proofs.Empty.{empty_right}
use Rattle.trace_text.proofs.LineFronts.{front_lines, last_is, last_there}

-- what stands before the rest, with so many newlines
record Before (bytes rest : List ℕ) (count : ℕ) : Type 0 where
  front : List ℕ
  parts : bytes ≡ front ++ rest
  newlines : count_by is_newline front ≡ count

newlines-cons : (b : ℕ) (bs : List ℕ) → count_by is_newline (b ∷ bs) ≡ cond (is_newline b) 1 0 + count_by is_newline bs
newlines-cons b bs = sum_by-cons (λ x. cond (is_newline x) 1 0) b bs

newlines-append : (xs ys : List ℕ) → count_by is_newline (xs ++ ys) ≡ count_by is_newline xs + count_by is_newline ys
newlines-append xs ys = sum_by-append (λ x. cond (is_newline x) 1 0) xs ys

-- behind the first byte, which is a newline or not
later_at : (newline : Bool) (b : ℕ) (bs : List ℕ) (k : ℕ) → drop (cond (not newline) (1 + k) 0 + 1) (b ∷ bs) ≡ cond newline bs (drop (k + 1) bs)
later_at true b bs k = refl
later_at false b bs k = let e : (1 + k) + 1 ≡ suc (k + 1) = omega arith in ap (λ n. drop n (b ∷ bs)) e

later-cons : (newline : Bool) (b : ℕ) (bs : List ℕ) → is_newline b ≡ newline → later_lines (b ∷ bs) ≡ cond newline bs (later_lines bs)
later-cons newline b bs is = later_at (is_newline b) b bs (position_or_len is_newline bs) ∙ ap (λ t. cond t bs (later_lines bs)) is

byte_before : (newline : Bool) (b : ℕ) (bs : List ℕ) → is_newline b ≡ newline → (later_lines bs ≢ [] → Before bs (later_lines bs) 1)
    → later_lines (b ∷ bs) ≢ [] → Before (b ∷ bs) (later_lines (b ∷ bs)) 1
byte_before true b bs is rest filled =
    let here : Before (b ∷ bs) bs 1 = record { front = b ∷ []; parts = refl; newlines = newlines-cons b [] ∙ ap (λ t. cond t 1 0 + 0) is } in
    subst (λ r. Before (b ∷ bs) r 1) (sym (later-cons true b bs is)) here
byte_before false b bs is rest filled =
    let e : later_lines (b ∷ bs) ≡ later_lines bs = later-cons false b bs is in
    let r = rest (λ none. filled (e ∙ none)) in
    let here : Before (b ∷ bs) (later_lines bs) 1 = record {
      front = b ∷ r.front;
      parts = ap (λ bytes. b ∷ bytes) r.parts;
      newlines = newlines-cons b r.front ∙ ap (λ t. cond t 1 0 + count_by is_newline r.front) is ∙ zero-add (count_by is_newline r.front) ∙ r.newlines;
    } in
    subst (λ r. Before (b ∷ bs) r 1) (sym e) here

line_before : (bytes : List ℕ) → later_lines bytes ≢ [] → Before bytes (later_lines bytes) 1
line_before [] filled = absurd (filled refl)
line_before (b ∷ bs) filled = byte_before (is_newline b) b bs refl (line_before bs) filled

lines_before : (bytes : List ℕ) (lines : List (List ℕ)) → AreTraceLines bytes lines → bytes_behind bytes lines ≢ [] → Before bytes (bytes_behind bytes lines) (length lines)
lines_before bytes [] h filled = record { front = []; parts = refl; newlines = refl }
lines_before bytes (line ∷ lines) h filled =
    let rest = bytes_behind (later_lines bytes) lines in
    let r = lines_before (later_lines bytes) lines h.2 filled in
    let first = line_before bytes (λ none. filled (empty_right r.front rest (sym r.parts ∙ none))) in
    record {
      front = first.front ++ r.front;
      parts = first.parts ∙ ap (λ bs. first.front ++ bs) r.parts ∙ sym (append_assoc first.front r.front rest);
      newlines = let m = first.newlines in let n = r.newlines in omega (arith, newlines-append first.front r.front);
    }

pub place_is : (bytes : List ℕ) (place : ℕ) (rest : List ℕ) → IsPlace bytes place rest → place ≡ length bytes - length rest
place_is bytes place rest p = let e = ap length p.left in let within = p.within in omega (arith, length-drop place bytes)

pub newlines_before : (bytes : List ℕ) (place : ℕ) (lines : List (List ℕ)) → AreTraceLines bytes lines → bytes_behind bytes lines ≢ [] → IsPlace bytes place (bytes_behind bytes lines)
    → count_by is_newline (take place bytes) ≡ length lines
newlines_before bytes place lines h filled p =
    let b = lines_before bytes lines h filled in
    let at = place_is bytes place (bytes_behind bytes lines) p in
    let long = ap length b.parts in
    let same : place ≡ length b.front = omega (arith, length-append b.front (bytes_behind bytes lines)) in
    let front : take place bytes ≡ b.front = ap (λ n. take n bytes) same ∙ ap (take (length b.front)) b.parts ∙ take-append_seam b.front (bytes_behind bytes lines) in
    ap (count_by is_newline) front ∙ b.newlines

left_at : (bytes : List ℕ) (lines : List (List ℕ)) → AreTraceLines bytes lines → bytes_behind bytes lines ≢ [] → drop (length bytes - length (bytes_behind bytes lines)) bytes ≡ bytes_behind bytes lines
left_at bytes lines h filled =
    let rest = bytes_behind bytes lines in
    let b = lines_before bytes lines h filled in
    let long = ap length b.parts in
    let same : length bytes - length rest ≡ length b.front = omega (arith, length-append b.front rest) in
    ap (λ n. drop n bytes) same ∙ ap (drop (length b.front)) b.parts ∙ drop-append_seam b.front rest

-- the last of lines begins so far from the end
pub last_at : (bytes : List ℕ) (lines : List (List ℕ)) (last : List ℕ) → AreTraceLines bytes (lines ++ last ∷ []) → first_line (drop (length bytes - length (bytes_behind bytes lines)) bytes) ≡ last
last_at bytes lines last h =
    ap first_line (left_at bytes lines (front_lines bytes lines (last ∷ []) h) (last_there bytes lines last h)) ∙ sym (last_is bytes lines last h)
