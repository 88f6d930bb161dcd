-- Numbers as pieces: also one with a quote behind it with which no constant goes on.
use Rattle.std.proofs.Common.{◌≡◌, ◌≢◌, ℕ, ◌≤◌, Bool, true, false, List, [], ◌∷◌, ◌++◌, length, codes, refl, ap, ◌∙◌, subst, append_assoc, arith}
use Rattle.std.specs.List.{list_all}
use Rattle.std.proofs.lemmas.Bool.{and_parts}
use Rattle.fir_base.specs.Lists.{In}
use Rattle.fir_base.specs.Bytes.{is_word_start, is_word_byte, is_digit}
use Rattle.fir_base.specs.Digits.{decimal_value}
use Rattle.fir_base.proofs.Each.{all_at}
use Rattle.ver_ast.specs.Tokens.{word, digit_zero, number, constant, sign, double, signed_shift, signed_word, question_digit, letter, doubles, AreDigits, IsConstant}
use Rattle.ver_ast.specs.Pieces.{spelled, IsLongestToken, BeginsNoComment, IsVPiece}
use Rattle.ver_ast.specs.working.TokenSteps.{number_token}
use Rattle.ver_ast.proofs.Reach.{NotNext, digit_begins_no_word}
use Rattle.ver_ast.proofs.TokenPieces.{one_zero, no_comment, number_piece}
use Rattle.ver_lex.proofs.Runs.{run_within, same_runs}

-- a constant at the front, behind a width
pub record BeginsBased (text : List ℕ) : Type 0 where
  pub width : ℕ
  pub value : ℕ
  pub s : List ℕ
  pub more : List ℕ
  pub is : IsConstant width value s
  pub text_is : text ≡ 39 ∷ letter is.base ∷ (is.digits ++ more)

module _ (s behind : List ℕ) (are : AreDigits s) (ends : NotNext is_digit behind) (alone : BeginsBased behind → ⊥) where
  one_at_least : 1 ≤ length s
  one_at_least = some s are.0
    where
      some : (s : List ℕ) → s ≢ [] → 1 ≤ length s
      some [] n = absurd (n refl)
      some (b ∷ bs) n = omega arith

  -- what begins there begins with a digit
  first_digit : (c : ℕ) (r more : List ℕ) → s ++ behind ≡ (c ∷ r) ++ more → is_digit c ≡ true
  first_digit c r more e = at s are e
    where
      at : (s : List ℕ) → AreDigits s → s ++ behind ≡ (c ∷ r) ++ more → is_digit c ≡ true
      at [] h e = absurd (h.0 refl)
      at (b ∷ bs) h e = let first : c ≡ b = cc in rw first h.1.0

  no_constant : (width value : ℕ) (r more : List ℕ) → IsConstant width value r → s ++ behind ≡ r ++ more → ⊥
  no_constant width value r more c e =
      let grouped = append_assoc c.size (39 ∷ letter c.base ∷ c.digits) more in
      let whole : s ++ behind ≡ c.size ++ (39 ∷ letter c.base ∷ (c.digits ++ more)) = e ∙ ap (λ x. x ++ more) c.bytes ∙ grouped in
      let same = same_runs is_digit s behind c.size (39 ∷ letter c.base ∷ (c.digits ++ more)) are.1 c.is_size.1 ends refl whole in
      alone (record { width = width; value = value; s = r; more = more; is = c; text_is = same.1 })

  no_double : (a b : ℕ) → In doubles (a, b) → is_digit a ≡ true → ⊥
  no_double a b m h =
      all_at (λ d. is_digit d.0 ≡ true → ⊥) doubles
      ((λ e. cc), ((λ e. cc), ((λ e. cc), ((λ e. cc), ((λ e. cc), ((λ e. cc), ((λ e. cc), ((λ e. cc), tt)))))))) (a, b) m h

  alone_longest : IsLongestToken s behind
  alone_longest (word []) r more h e = absurd cc
  alone_longest (word (c ∷ cs)) r more h e =
      let p = and_parts (is_word_start c) (list_all is_word_byte cs) h.0 in
      let d = first_digit c cs more (subst (λ x. s ++ behind ≡ x ++ more) h.1 e) in
      let no = digit_begins_no_word c d in
      absurd (cc)
  alone_longest digit_zero r more h e = rw h one_at_least
  alone_longest (number n) r more h e = run_within is_digit r more s behind h.0.1 ends e
  alone_longest (constant width value) r more h e = absurd (no_constant width value r more h e)
  alone_longest (sign b) r more h e = rw h.1 one_at_least
  alone_longest (double a b) r more h e = absurd (no_double a b h.0 (first_digit a (b ∷ []) more (subst (λ x. s ++ behind ≡ x ++ more) h.1 e)))
  alone_longest signed_shift r more h e =
      let d = first_digit 62 (62 ∷ 62 ∷ []) more (subst (λ x. s ++ behind ≡ x ++ more) h e) in
      absurd (cc)
  alone_longest signed_word r more h e =
      let d = first_digit 36 (codes "signed") more (subst (λ x. s ++ behind ≡ x ++ more) h e) in
      absurd (cc)
  alone_longest question_digit r more h e = absurd h

  free : BeginsNoComment (s ++ behind)
  free = at s are
    where
      no_slash : (b : ℕ) → is_digit b ≡ true → b ≢ 47
      no_slash b h e = let k : is_digit 47 ≡ true = subst (λ x. is_digit x ≡ true) e h in cc

      at : (s : List ℕ) → AreDigits s → BeginsNoComment (s ++ behind)
      at [] h = absurd (h.0 refl)
      at (b ∷ bs) h = no_comment b (bs ++ behind) (no_slash b h.1.0)

  pub number_alone : (z : Bool) → z ≡ one_zero s → IsVPiece (spelled (number_token z (decimal_value s)) s) behind
  number_alone true h = ((number_piece true s [] are h tt).0, alone_longest, free, tt)
  number_alone false h = ((number_piece false s [] are h tt).0, alone_longest, free, tt)
