-- Where all tokens are read, at most 256 braces are open.
use Rattle.std.proofs.Common.{◌≡◌, ℕ, ◌+◌, ◌-◌, ◌<◌, ◌≤◌, List, [], ◌∷◌, ◌++◌, fold, Bool, true, false, ◌&&◌, nat_eq, nat_le, if◌then◌else◌, Option, Some, None, refl, sym, ap, ◌∙◌, subst, arith}
use Rattle.std.proofs.lemmas.Bool.{leb-false}
use Rattle.ver_ast.specs.Tokens.{VToken, word, digit_zero, number, constant, sign, double, signed_shift, signed_word, question_digit}
use Rattle.ver_ast.specs.Pieces.{PlacedToken}
use Rattle.ver_parse.specs.Depths.{opened_by, open_braces, IsShallow}
use Rattle.ver_parse.specs.working.Symbols.{Symbol}
use Rattle.ver_parse.specs.working.Reading.{Outcome, complete, unexpected, too_deep, behind, is_brace, go_on, read_on}
use Rattle.ver_parse.proofs.Leading.{reads_token}

opened_sign : (d b : ℕ) (x y z : Bool) → nat_eq b 123 ≡ x → nat_eq b 125 ≡ y → nat_le 256 d ≡ z → (x && z) ≡ false → d ≤ 256 → opened_by d (sign b) ≤ 256
opened_sign d b true y true e i l h k = absurd (cc)
opened_sign d b true y false e i l h k = let room : d < 256 = leb-false 256 d l in rw e (omega arith)
opened_sign d b false true z e i l h k = rw (e, i) (omega arith)
opened_sign d b false false z e i l h k = rw (e, i) k

-- where there is room for a token, no more are open behind it
pub opened_low : (d : ℕ) (t : VToken) → (is_brace t && nat_le 256 d) ≡ false → d ≤ 256 → opened_by d t ≤ 256
opened_low d (sign b) h k = opened_sign d b (nat_eq b 123) (nat_eq b 125) (nat_le 256 d) refl refl refl h k
opened_low d (word w) h k = k
opened_low d digit_zero h k = k
opened_low d (number n) h k = k
opened_low d (constant w x) h k = k
opened_low d (double a b) h k = k
opened_low d signed_shift h k = k
opened_low d signed_word h k = k
opened_low d question_digit h k = k

-- one token is read, there is room for it, and the others are read behind it
record Goes (d : ℕ) (todo : List Symbol) (t : PlacedToken) (ts : List PlacedToken) : Type 0 where
  next : List Symbol
  room : (is_brace t.token && nat_le 256 d) ≡ false
  reads : read_on (opened_by d t.token) next ts ≡ complete

goes_by_room : (d : ℕ) (todo next : List Symbol) (t : PlacedToken) (ts : List PlacedToken) (c : Bool) → (is_brace t.token && nat_le 256 d) ≡ c
    → (if c then too_deep t.place else read_on (opened_by d t.token) next ts) ≡ complete → Goes d todo t ts
goes_by_room d todo next t ts true e h = absurd (cc)
goes_by_room d todo next t ts false e h = record { next = next; room = e; reads = h }

goes_by : (d : ℕ) (todo : List Symbol) (t : PlacedToken) (ts : List PlacedToken) (o : Option (List Symbol)) → go_on o d t (λ next. read_on (opened_by d t.token) next ts) ≡ complete → Goes d todo t ts
goes_by d todo t ts None h = absurd (cc)
goes_by d todo t ts (Some next) h = goes_by_room d todo next t ts (is_brace t.token && nat_le 256 d) refl h

low_along : (front back : List PlacedToken) (d : ℕ) (todo : List Symbol) → read_on d todo (front ++ back) ≡ complete → d ≤ 256 → fold (λ n u. opened_by n u.token) d front ≤ 256
low_along [] back d todo h k = k
low_along (t ∷ front) back d todo h k =
    let g = goes_by d todo t (front ++ back) (behind todo t.token) (sym (reads_token d todo t (front ++ back)) ∙ h) in
    low_along front back (opened_by d t.token) g.next g.reads (opened_low d t.token g.room k)

pub shallow : (ts : List PlacedToken) (todo : List Symbol) → read_on 0 todo ts ≡ complete → IsShallow ts
shallow ts todo h front back e = low_along front back 0 todo (subst (λ us. read_on 0 todo us ≡ complete) e h) (omega arith)
