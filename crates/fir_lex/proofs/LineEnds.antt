-- A comment or none, and the end of a line.
use Rattle.std.proofs.Common.{◌≡◌, ◌≢◌, ℕ, suc, ◌+◌, Bool, true, false, ◌&&◌, eqb, List, [], ◌∷◌, ◌++◌, length, drop, refl, sym, ap, ◌∙◌, inl, inr, subst, arith}
use Rattle.std.proofs.lemmas.Bool.{eqb-true, ne_eqb, or_from}
use Rattle.std.proofs.lemmas.List.{drop_at}
use Rattle.std.proofs.lemmas.List.Elements.{recursion_from_All}
use Rattle.fir_lex.specs.working.Bytes.{starts_with_byte, ends_line, line_end_length}
use Rattle.fir_lex.specs.working.Front.{comment_length}
use Rattle.fir_lex.specs.working.Lexed.{is_idle, idle_length}
use Rattle.fir_lex.specs.Longest.{BeginsWithNo}
use Rattle.fir_lex.specs.Pieces.{IsBlank, EndsIn}
use Rattle.fir_lex.specs.Lines.{IsComment, EndsLine}
use Rattle.fir_lex.proofs.Lengths.{comment_goes_on}
use Rattle.fir_lex.proofs.OneLine.{NoNewline}

-- no line's end begins with the last of these bytes
abbrev pub Apart : List ℕ → List ℕ → Type 0
Apart s tail = EndsIn 13 s → starts_with_byte 10 tail ≡ false

-- ---- a comment goes to the line's end

last_goes_on : (b : ℕ) (tail : List ℕ) → b ≢ 10 → Apart (b ∷ []) tail → ends_line (b ∷ tail) ≡ false
last_goes_on b tail other apart = or_from (eqb b 10) _ (ne_eqb b 10 other) (by_return (eqb b 13) refl)
  where
    by_return : (t : Bool) → eqb b 13 ≡ t → (t && starts_with_byte 10 tail) ≡ false
    by_return true e = apart ([], ap {B = List ℕ} (λ (x : ℕ). x ∷ []) (eqb-true b 13 e))
    by_return false e = refl

apart_more : (b : ℕ) (s tail : List ℕ) → Apart (b ∷ s) tail → Apart s tail
apart_more b s tail apart ends = apart (b ∷ ends.0, ap {B = List ℕ} (λ (x : List ℕ). b ∷ x) ends.1)

inner_goes_on : (b c : ℕ) (s : List ℕ) → b ≢ 10 → c ≢ 10 → ends_line (b ∷ c ∷ s) ≡ false
inner_goes_on b c s other next = or_from (eqb b 10) _ (ne_eqb b 10 other) (by_return (eqb b 13))
  where
    by_return : (t : Bool) → (t && eqb c 10) ≡ false
    by_return true = ne_eqb c 10 next
    by_return false = refl

comment_taken : (s tail : List ℕ) → NoNewline s → Apart s tail → comment_length tail ≡ 0 → comment_length (s ++ tail) ≡ length s
comment_taken [] tail one apart h = h
comment_taken (b ∷ []) tail one apart h = comment_goes_on b tail (last_goes_on b tail one.0 apart) ∙ ap suc h
comment_taken (b ∷ c ∷ cs) tail one apart h =
    comment_goes_on b (c ∷ cs ++ tail) (inner_goes_on b c (cs ++ tail) one.0 one.1.0)
    ∙ ap suc (comment_taken (c ∷ cs) tail one.1 (apart_more b (c ∷ cs) tail apart) h)

-- ---- what an end is

pub record End (end behind : List ℕ) : Type 0 where
  pub no_comment : comment_length (end ++ behind) ≡ 0
  pub long : line_end_length (end ++ behind) ≡ length end
  pub idle : is_idle (end ++ behind) ≡ true
  pub no_blank : BeginsWithNo IsBlank (end ++ behind)

no_blank_at : (b : ℕ) → b ≢ 32 → b ≢ 9 → IsBlank b → ⊥
no_blank_at b space tab (inl e) = space e
no_blank_at b space tab (inr e) = tab e

at_newline : (behind : List ℕ) → End (10 ∷ []) behind
at_newline behind = record { no_comment = refl; long = refl; idle = refl; no_blank = no_blank_at 10 (λ e. absurd (omega arith)) (λ e. absurd (omega arith)) }

at_return : (behind : List ℕ) → End (13 ∷ 10 ∷ []) behind
at_return behind = record { no_comment = refl; long = refl; idle = refl; no_blank = no_blank_at 13 (λ e. absurd (omega arith)) (λ e. absurd (omega arith)) }

at_end : End [] []
at_end = record { no_comment = refl; long = refl; idle = refl; no_blank = tt }

end_is : (comment end behind : List ℕ) → EndsLine comment end behind → End end behind
end_is comment end behind (inl h) = subst (λ (e : List ℕ). End e behind) (sym h.0) (at_newline behind)
end_is comment end behind (inr (inl h)) = subst (λ (e : List ℕ). End e behind) (sym h) (at_return behind)
end_is comment end behind (inr (inr h)) = subst (λ (e : List ℕ). End e behind) (sym h.0) (subst (End []) (sym h.1) at_end)

end_apart : (comment end behind : List ℕ) → EndsLine comment end behind → Apart comment (end ++ behind)
end_apart comment end behind (inl h) ends = absurd (h.1 ends)
end_apart comment end behind (inr (inl h)) ends = subst (λ (e : List ℕ). starts_with_byte 10 (e ++ behind) ≡ false) (sym h) refl
end_apart comment end behind (inr (inr h)) ends =
    subst (λ (e : List ℕ). starts_with_byte 10 (e ++ behind) ≡ false) (sym h.0) (subst (λ (x : List ℕ). starts_with_byte 10 x ≡ false) (sym h.1) refl)

-- ---- a comment or none, and an end

pub record Tail (comment end behind : List ℕ) : Type 0 where
  pub comment_long : comment_length (comment ++ (end ++ behind)) ≡ length comment
  pub idle_long : idle_length (comment ++ (end ++ behind)) ≡ length comment + length end
  pub idle : is_idle (comment ++ (end ++ behind)) ≡ true
  pub no_blank : BeginsWithNo IsBlank (comment ++ (end ++ behind))

tail_of : (comment end behind : List ℕ) → comment_length (comment ++ (end ++ behind)) ≡ length comment → End end behind
    → is_idle (comment ++ (end ++ behind)) ≡ true → BeginsWithNo IsBlank (comment ++ (end ++ behind)) → Tail comment end behind
tail_of comment end behind long e idle no_blank = record {
  comment_long = long;
  idle_long =
      ap (λ (n : ℕ). n + line_end_length (drop n (comment ++ (end ++ behind)))) long
      ∙ ap (λ (s : List ℕ). length comment + line_end_length s) (drop_at comment (end ++ behind) (length comment) refl)
      ∙ ap (λ (n : ℕ). length comment + n) e.long;
  idle = idle;
  no_blank = no_blank;
}

comment_no_newline : (comment : List ℕ) → IsComment comment → NoNewline comment
comment_no_newline comment (inl e) = subst NoNewline (sym e) tt
comment_no_newline comment (inr h) = subst NoNewline (sym h.1) ((λ e. absurd (omega arith)), recursion_from_All (λ b. b ≢ 10) h.0 h.2)

pub tail : (comment end behind : List ℕ) → IsComment comment → EndsLine comment end behind → Tail comment end behind
tail comment end behind c e =
    let is = end_is comment end behind e in
    let long = comment_taken comment (end ++ behind) (comment_no_newline comment c) (end_apart comment end behind e) is.no_comment in
    tail_of comment end behind long is (idle_at c) (no_blank_here c)
  where
    idle_at : IsComment comment → is_idle (comment ++ (end ++ behind)) ≡ true
    idle_at (inl h) = subst (λ (s : List ℕ). is_idle (s ++ (end ++ behind)) ≡ true) (sym h) (end_is comment end behind e).idle
    idle_at (inr h) = subst (λ (s : List ℕ). is_idle (s ++ (end ++ behind)) ≡ true) (sym h.1) refl

    no_blank_here : IsComment comment → BeginsWithNo IsBlank (comment ++ (end ++ behind))
    no_blank_here (inl h) = subst (λ (s : List ℕ). BeginsWithNo IsBlank (s ++ (end ++ behind))) (sym h) (end_is comment end behind e).no_blank
    no_blank_here (inr h) =
        subst (λ (s : List ℕ). BeginsWithNo IsBlank (s ++ (end ++ behind))) (sym h.1) (no_blank_at 59 (λ e. absurd (omega arith)) (λ e. absurd (omega arith)))
