-- File information: the length that is found goes to the first bracket that no backslash stands before.
use Rattle.std.proofs.Common.{◌≡◌, ◌≢◌, ℕ, suc, Bool, true, false, ◌&&◌, not, eqb, List, [], ◌∷◌, ◌++◌, length, Some, None, refl, sym, ap, ◌∙◌, append_assoc, append-nil, subst, arith}
use Rattle.std.specs.Prelude.{option_map, Decides}
use Rattle.std.proofs.lemmas.Bool.{eqb-true, eqb-false, eq-eqb, ne_eqb, false_from_ne_true}
use Rattle.std.proofs.lemmas.List.{same_from_push}
use Rattle.std.proofs.lemmas.List.Elements.{All-from_recursion, recursion_from_All}
use Rattle.fir_lex.specs.working.Bytes.{ends_line}
use Rattle.fir_lex.specs.working.Front.{information_length}
use Rattle.fir_lex.specs.Pieces.{EndsIn, IsInformation}
use Rattle.fir_lex.proofs.Lengths.{information_ends, information_closes, information_goes_on}
use Rattle.fir_lex.proofs.OneLine.{NoNewline, goes_on, no_newline, nothing_ends, before}

-- what stands before the bracket that closes, where the byte before it all is a backslash or not
abbrev pub Inside : Bool → List ℕ → Type 0
Inside backslash [] = backslash ≡ false
Inside backslash (b ∷ bs) = (b ≢ 10) × (b ≡ 93 → backslash ≡ true) × Inside (eqb b 92) bs

inside_one_line : (backslash : Bool) (s : List ℕ) → Inside backslash s → NoNewline s
inside_one_line backslash [] h = tt
inside_one_line backslash (b ∷ bs) h = (h.0, inside_one_line (eqb b 92) bs h.2)

-- ---- up to the bracket

not_closed : (backslash : Bool) (b : ℕ) → (b ≡ 93 → backslash ≡ true) → (not backslash && eqb b 93) ≡ false
not_closed true b h = refl
not_closed false b h = ne_eqb b 93 (λ e. absurd (let off = h e in cc))

pub information_taken : (backslash : Bool) (s behind : List ℕ) → Inside backslash s → information_length backslash (s ++ 93 ∷ behind) ≡ Some (length s)
information_taken true [] behind h = absurd (cc)
information_taken false [] behind h = information_closes false 93 behind refl refl
information_taken backslash (b ∷ bs) behind h =
    information_goes_on backslash b (bs ++ 93 ∷ behind) (goes_on b bs 93 behind h.0 (inside_one_line (eqb b 92) bs h.2) (λ e. absurd (omega arith)))
    (not_closed backslash b h.1)
    ∙ ap (option_map suc) (information_taken (eqb b 92) bs behind h.2)

-- ---- what is found

pub record Informed (backslash : Bool) (bytes : List ℕ) (n : ℕ) : Type 0 where
  pub content : List ℕ
  pub behind : List ℕ
  pub parts : bytes ≡ content ++ 93 ∷ behind
  pub long : n ≡ length content
  pub inside : Inside backslash content

closed_here : (backslash : Bool) (b : ℕ) (bs : List ℕ) (n : ℕ) → (not backslash && eqb b 93) ≡ true → Some 0 ≡ Some n → Informed backslash (b ∷ bs) n
closed_here true b bs n e is = absurd (cc)
closed_here false b bs n e is = record {
  content = [];
  behind = bs;
  parts = rw (eqb-true b 93 e) refl;
  long = cc;
  inside = refl;
}

escaped_bracket : (backslash : Bool) (b : ℕ) → (not backslash && eqb b 93) ≡ false → b ≡ 93 → backslash ≡ true
escaped_bracket true b e is = refl
escaped_bracket false b e is = absurd (eqb-false b 93 e is)

by_step : (backslash : Bool) (b : ℕ) (bs : List ℕ) (n : ℕ) → ((m : ℕ) → information_length (eqb b 92) bs ≡ Some m → Informed (eqb b 92) bs m)
    → information_length backslash (b ∷ bs) ≡ Some n → (t u : Bool) → ends_line (b ∷ bs) ≡ t → (not backslash && eqb b 93) ≡ u → Informed backslash (b ∷ bs) n
by_step backslash b bs n deep h true u e q = let none : None ≡ Some n = sym (information_ends backslash (b ∷ bs) e) ∙ h in absurd (cc)
by_step backslash b bs n deep h false true e q = closed_here backslash b bs n q (sym (information_closes backslash b bs e q) ∙ h)
by_step backslash b bs n deep h false false e q =
    let less = before (information_length (eqb b 92) bs) n (sym (information_goes_on backslash b bs e q) ∙ h) in
    let more = deep less.count less.found in record {
      content = b ∷ more.content;
      behind = more.behind;
      parts = ap {B = List ℕ} (λ (s : List ℕ). b ∷ s) more.parts;
      long = less.next ∙ ap suc more.long;
      inside = (no_newline b bs e, escaped_bracket backslash b q, more.inside);
    }

pub informed : (backslash : Bool) (bytes : List ℕ) (n : ℕ) → information_length backslash bytes ≡ Some n → Informed backslash bytes n
informed backslash [] n h = absurd (cc)
informed backslash (b ∷ bs) n h = by_step backslash b bs n (λ m e. informed (eqb b 92) bs m e) h (ends_line (b ∷ bs)) (not backslash && eqb b 93) refl refl

-- ---- the same in words

last_is : (seen : List ℕ) (b : ℕ) → Decides (eqb b 92) (EndsIn 92 (seen ++ b ∷ []))
last_is seen b = ((λ e. (seen, rw (eqb-true b 92 e) refl)), (λ h. eq-eqb b 92 (same_from_push seen h.0 b 92 h.1).1))

regroup : (seen : List ℕ) (b : ℕ) (bs : List ℕ) → seen ++ b ∷ bs ≡ (seen ++ b ∷ []) ++ bs
regroup seen b bs = sym (append_assoc seen (b ∷ []) bs)

abbrev BracketsEscaped : List ℕ → Type 0
BracketsEscaped s = (front back : List ℕ) → s ≡ front ++ 93 ∷ back → EndsIn 92 front

inside_from : (seen : List ℕ) (backslash : Bool) (s : List ℕ) → Decides backslash (EndsIn 92 seen) → NoNewline s → BracketsEscaped (seen ++ s)
    → (EndsIn 92 (seen ++ s) → ⊥) → Inside backslash s
inside_from seen backslash [] d one each ends = false_from_ne_true backslash (λ e. ends (subst (EndsIn 92) (sym (append-nil seen)) (d.0 e)))
inside_from seen backslash (b ∷ bs) d one each ends = (
  one.0,
  (λ e. d.1 (each seen bs (ap (λ (x : ℕ). seen ++ x ∷ bs) e))),
  inside_from (seen ++ b ∷ []) (eqb b 92) bs (last_is seen b) one.1 (subst BracketsEscaped (regroup seen b bs) each)
      (λ h. ends (subst (EndsIn 92) (sym (regroup seen b bs)) h)),
)

pub inside_of : (content : List ℕ) → IsInformation content → Inside false content
inside_of content h =
    inside_from [] false content ((λ e. absurd (cc)), (λ e. absurd (nothing_ends 92 e))) (recursion_from_All (λ b. b ≢ 10) content h.0) h.1 h.2

brackets_from : (seen : List ℕ) (backslash : Bool) (s : List ℕ) → (backslash ≡ true → EndsIn 92 seen) → Inside backslash s → (front back : List ℕ)
    → s ≡ front ++ 93 ∷ back → EndsIn 92 (seen ++ front)
brackets_from seen backslash [] known h [] back e = absurd (cc)
brackets_from seen backslash [] known h (x ∷ xs) back e = absurd (cc)
brackets_from seen backslash (b ∷ bs) known h [] back e = subst (EndsIn 92) (sym (append-nil seen)) (known (h.1 cc))
brackets_from seen backslash (b ∷ bs) known h (x ∷ xs) back e =
    let same : b ≡ x = cc in
    let rest : bs ≡ xs ++ 93 ∷ back = cc in
    subst (EndsIn 92) (sym (regroup seen b xs) ∙ ap (λ (y : ℕ). seen ++ y ∷ xs) same)
    (brackets_from (seen ++ b ∷ []) (eqb b 92) bs (last_is seen b).0 h.2 xs back rest)

never_ends : (seen : List ℕ) (backslash : Bool) (s : List ℕ) → (EndsIn 92 seen → backslash ≡ true) → Inside backslash s → EndsIn 92 (seen ++ s) → ⊥
never_ends seen backslash [] known h ends = let on = known (subst (EndsIn 92) (append-nil seen) ends) in absurd (cc)
never_ends seen backslash (b ∷ bs) known h ends = never_ends (seen ++ b ∷ []) (eqb b 92) bs (last_is seen b).1 h.2 (subst (EndsIn 92) (regroup seen b bs) ends)

pub information_of : (content : List ℕ) → Inside false content → IsInformation content
information_of content h = (
  All-from_recursion (λ b. b ≢ 10) content (inside_one_line false content h),
  brackets_from [] false content (λ e. absurd (cc)) h,
  never_ends [] false content (λ e. absurd (nothing_ends 92 e)) h,
)
