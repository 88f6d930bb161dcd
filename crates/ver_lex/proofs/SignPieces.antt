-- Signs at the front of bytes, and bytes at which nothing begins.
use Rattle.std.proofs.Common.{◌≡◌, ℕ, Bool, true, false, ◌||◌, ◌&&◌, List, [], ◌∷◌, ◌++◌, drop, codes, refl, sym, ap, ◌∙◌, inl, inr, ◌⊎◌, subst, append_assoc, arith}
use Rattle.std.specs.Prelude.{nat_eq}
use Rattle.std.specs.List.{starts_with, list_any}
use Rattle.std.proofs.lemmas.Bool.{cond_both, and_parts, both_ways}
use Rattle.fir_base.specs.Lists.{In}
use Rattle.fir_base.specs.Bytes.{is_word_start, is_digit}
use Rattle.ver_ast.specs.Tokens.{VToken, constant, double, lone_signs, IsSpelledAs}
use Rattle.ver_ast.specs.Pieces.{blank, line_comment, block_comment, spelled, questioned, white_space, IsVPiece}
use Rattle.ver_ast.specs.working.TokenSteps.{is_blank, is_sign, is_double}
use Rattle.ver_ast.proofs.Reach.{NotNext, all_tested}
use Rattle.ver_ast.proofs.TokenPieces.{lone_piece, double_piece, shift_piece, signed_shift_piece}
use Rattle.ver_ast.proofs.TokensFound.{is_byte, double_in}
use Rattle.ver_lex.specs.declared.kind.Kind.TheVariants as kind
use Rattle.ver_lex.specs.declared.piece.Piece.TheVariants as piece
use Rattle.ver_lex.specs.Lexed.{BeginsNoPiece}
use Rattle.ver_lex.specs.working.Fronts.{begins_double, sign_front}
use Rattle.ver_lex.proofs.FirstBytes.{BeginsToken, no_bytes, token_first}
use Rattle.ver_lex.proofs.Prefixes.{begins, never}
use Rattle.ver_lex.proofs.Standing.{FrontStands, token_front}

either : (a b : Bool) → (a || b) ≡ true → (a ≡ true) ⊎ (b ≡ true)
either true b h = inl refl
either false b h = inr h

-- a byte that is found by a test is one of the list
pub any_in : (xs : List ℕ) (b : ℕ) → list_any (λ c. nat_eq b c) xs ≡ true → In xs b
any_in [] b h = absurd cc
any_in (x ∷ xs) b h = elim (either (nat_eq b x) (list_any (λ c. nat_eq b c) xs) h) [ inl e ↦ inl (sym (is_byte b x e)) | inr e ↦ inr (any_in xs b e) ]

-- a byte with which no white space, word, number or comment begins, and no `$signed`
pub record IsMark (a : ℕ) (bs : List ℕ) : Type 0 where
  pub no_blank : is_blank a ≡ false
  pub no_word : is_word_start a ≡ false
  pub no_digit : is_digit a ≡ false
  pub no_line : starts_with nat_eq (a ∷ bs) (codes "//") ≡ false
  pub no_block : starts_with nat_eq (a ∷ bs) (codes "/*") ≡ false
  pub no_signed : starts_with nat_eq (a ∷ bs) (codes "$signed") ≡ false

shift_front : (bytes : List ℕ) → starts_with nat_eq bytes (codes ">>>") ≡ true → FrontStands bytes (piece.Token kind.SignedShift 3)
shift_front bytes h =
    token_front bytes (piece.Token kind.SignedShift 3) kind.SignedShift (codes ">>>") (drop 3 bytes) (begins bytes (codes ">>>") h) refl
    (signed_shift_piece (drop 3 bytes)) (omega arith) (omega arith)

double_front : (bytes : List ℕ) → starts_with nat_eq bytes (codes ">>>") ≡ false → begins_double bytes ≡ true → FrontStands bytes (piece.Token kind.Double 2)
double_front [] n h = absurd cc
double_front (a ∷ []) n h = absurd cc
double_front (a ∷ b ∷ bs) n h =
    token_front (a ∷ b ∷ bs) (piece.Token kind.Double 2) kind.Double (a ∷ b ∷ []) bs refl refl (by_shift (nat_eq a 62 && nat_eq b 62) refl) (omega arith)
    (omega arith)
  where
    no_third : (bs : List ℕ) → starts_with nat_eq (62 ∷ 62 ∷ bs) (codes ">>>") ≡ false → NotNext (λ c. nat_eq c 62) bs
    no_third [] k = tt
    no_third (c ∷ cs) k = by_test (nat_eq c 62) refl
      where
        by_test : (t : Bool) → nat_eq c 62 ≡ t → nat_eq c 62 ≡ false
        by_test true e = absurd (never (62 ∷ 62 ∷ c ∷ cs) (codes ">>>") cs k (ap (λ x. 62 ∷ 62 ∷ x ∷ cs) (is_byte c 62 e)))
        by_test false e = e

    by_shift : (t : Bool) → (nat_eq a 62 && nat_eq b 62) ≡ t → IsVPiece (spelled (double a b) (a ∷ b ∷ [])) bs
    by_shift true e =
        let p = and_parts (nat_eq a 62) (nat_eq b 62) e in
        let first = is_byte a 62 p.0 in
        let second = is_byte b 62 p.1 in
        let k : starts_with nat_eq (62 ∷ 62 ∷ bs) (codes ">>>") ≡ false = subst (λ x. starts_with nat_eq (x ∷ 62 ∷ bs) (codes ">>>") ≡ false) first
        (subst (λ x. starts_with nat_eq (a ∷ x ∷ bs) (codes ">>>") ≡ false) second n) in
        subst (λ x. IsVPiece (spelled (double x b) (x ∷ b ∷ [])) bs) (sym first)
        (subst (λ x. IsVPiece (spelled (double 62 x) (62 ∷ x ∷ [])) bs) (sym second) (shift_piece bs (no_third bs k)))
    by_shift false e = double_piece a b bs (double_in a b h) e

sign_alone : (a : ℕ) (bs : List ℕ) → IsMark a bs → begins_double (a ∷ bs) ≡ false → is_sign a ≡ true → FrontStands (a ∷ bs) (piece.Token kind.Sign 1)
sign_alone a bs m n h =
    token_front (a ∷ bs) (piece.Token kind.Sign 1) kind.Sign (a ∷ []) bs refl refl
    (lone_piece a bs (any_in lone_signs a h) (next bs n) ((λ k. never (a ∷ bs) (codes "//") k.0 m.no_line k.1), (λ k. never (a ∷ bs) (codes "/*") k.0 m.no_block k.1)))
    (omega arith) (omega arith)
  where
    next : (bs : List ℕ) → begins_double (a ∷ bs) ≡ false → NotNext (is_double a) bs
    next [] k = tt
    next (b ∷ cs) k = k

-- ---- nothing

module _ (a : ℕ) (bs : List ℕ) (m : IsMark a bs) (no_double : begins_double (a ∷ bs) ≡ false) (no_sign : is_sign a ≡ false) where
  no_token : (t : VToken) (s behind : List ℕ) → IsSpelledAs t s → a ∷ bs ≡ s ++ behind → ⊥
  no_token t [] behind h e = no_bytes t h
  no_token t (c ∷ s) behind h e =
      let first : c ≡ a = cc in
      let rest : bs ≡ s ++ behind = cc in
      by_first s rest (subst (λ x. BeginsToken x s) first (token_first t c s h))
    where
      by_first : (s : List ℕ) → bs ≡ s ++ behind → BeginsToken a s → ⊥
      by_first s e (inl k) = both_ways (is_word_start a) m.no_word k
      by_first s e (inr (inl k)) = both_ways (is_digit a) m.no_digit k
      by_first s e (inr (inr (inl k))) = both_ways (is_sign a) no_sign k
      by_first s e (inr (inr (inr (inl k)))) =
          let behind_is : bs ≡ 61 ∷ behind = e ∙ ap (λ x. x ++ behind) k.1 in
          let no : begins_double (33 ∷ 61 ∷ behind) ≡ false = subst (λ x. begins_double (x ∷ 61 ∷ behind) ≡ false) k.0 (subst (λ x. begins_double (a ∷ x) ≡ false) behind_is no_double) in
          cc
      by_first s e (inr (inr (inr (inr k)))) =
          let behind_is : bs ≡ codes "signed" ++ behind = e ∙ ap (λ x. x ++ behind) k.1 in
          let whole : a ∷ bs ≡ codes "$signed" ++ behind = cc in
          never (a ∷ bs) (codes "$signed") behind m.no_signed whole

  nothing_begins : BeginsNoPiece (a ∷ bs)
  nothing_begins (blank b) behind e is =
      let first : b ≡ a = cc in
      both_ways (is_blank a) m.no_blank (subst (λ x. is_blank x ≡ true) first (all_tested is_blank white_space refl b is))
  nothing_begins (line_comment content) behind e is = never (a ∷ bs) (codes "//") (content ++ behind) m.no_line e
  nothing_begins (block_comment content) behind e is = never (a ∷ bs) (codes "/*") ((content ++ codes "*/") ++ behind) m.no_block e
  nothing_begins (spelled t s) behind e is = no_token t s behind is.0 e
  nothing_begins (questioned width value s) behind e is =
      no_token (constant width value) s (codes "?" ++ behind) is (e ∙ append_assoc s (codes "?") behind)

pub sign_stands : (a : ℕ) (bs : List ℕ) → IsMark a bs → FrontStands (a ∷ bs) (sign_front (a ∷ bs))
sign_stands a bs m =
    cond_both (starts_with nat_eq (a ∷ bs) (codes ">>>")) _ _ (FrontStands (a ∷ bs)) (λ h. shift_front (a ∷ bs) h) (λ n.
    cond_both (begins_double (a ∷ bs)) _ _ (FrontStands (a ∷ bs)) (λ h. double_front (a ∷ bs) n h) (λ k.
    cond_both (is_sign a) _ _ (FrontStands (a ∷ bs)) (λ h. sign_alone a bs m k h) (λ l. nothing_begins a bs m k l)))
