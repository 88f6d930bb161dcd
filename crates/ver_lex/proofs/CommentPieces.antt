-- Comments at the front of bytes.
use Rattle.std.proofs.Common.{◌≡◌, ◌≢◌, ℕ, suc, ◌+◌, Bool, true, false, not, ◌&&◌, List, [], ◌∷◌, ◌++◌, length, codes, Option, Some, None, refl, sym, ap, ◌∙◌, inl, inr, ◌⊎◌, subst, append_assoc, length-append, arith}
use Rattle.std.specs.Prelude.{nat_eq, take_while, option_map}
use Rattle.std.specs.List.{AllByRecursion}
use Rattle.std.proofs.lemmas.Bool.{and_parts}
use Rattle.fir_base.proofs.Each.{all_at}
use Rattle.fir_base.specs.Lists.{In}
use Rattle.ver_ast.specs.Pieces.{blank, line_comment, block_comment, spelled, questioned, white_space, BeginsWith, HasNoEnd, IsVPiece}
use Rattle.ver_ast.proofs.Reach.{NotNext}
use Rattle.ver_ast.proofs.TokenPieces.{constant_no_comment}
use Rattle.ver_ast.proofs.TokensFound.{is_byte}
use Rattle.ver_lex.specs.Lexed.{BeginsNoPiece}
use Rattle.ver_lex.specs.working.Fronts.{line_length, ends_block, block_length, block_front}
use Rattle.ver_lex.proofs.Runs.{AllPass, run, same_runs}
use Rattle.ver_lex.proofs.Standing.{Stands, no_tokens, FrontStands}

-- ---- on one line

abbrev is_inside : ℕ → Bool
is_inside b = not (nat_eq b 10)

newline_is : (b : ℕ) → is_inside b ≡ false → b ≡ 10
newline_is b h = by_test (nat_eq b 10) refl
  where
    by_test : (t : Bool) → nat_eq b 10 ≡ t → b ≡ 10
    by_test true e = is_byte b 10 e
    by_test false e = let no : is_inside b ≡ true = rw e refl in absurd cc

no_newlines : (s : List ℕ) → AllPass is_inside s → AllByRecursion (λ b. b ≢ 10) s
no_newlines [] h = tt
no_newlines (b ∷ bs) h = (λ e. let no : is_inside 10 ≡ true = subst (λ x. is_inside x ≡ true) e h.0 in cc, no_newlines bs h.1)

line_ends : (behind : List ℕ) → NotNext is_inside behind → (behind ≡ []) ⊎ BeginsWith behind (10 ∷ [])
line_ends [] n = inl refl
line_ends (b ∷ bs) n = inr (bs, ap (λ x. x ∷ bs) (newline_is b n))

pub line_stands : (rest : List ℕ) → Stands (47 ∷ 47 ∷ rest) (2 + line_length rest) no_tokens
line_stands rest =
    let r = run is_inside rest in
    record {
      piece = line_comment (take_while is_inside rest);
      behind = r.behind;
      bytes_are = ap (λ x. 47 ∷ 47 ∷ x) r.parts;
      is = (no_newlines (take_while is_inside rest) r.all, line_ends r.behind r.ends);
      count = omega arith;
      tokens = λ before. refl;
      some = omega arith;
    }

-- ---- blocks

-- the first `*/`, behind n bytes
record Closes (rest : List ℕ) (n : ℕ) : Type 0 where
  content : List ℕ
  behind : List ℕ
  parts : rest ≡ content ++ 42 ∷ 47 ∷ behind
  no_end : HasNoEnd content
  count : length content ≡ n

ends_at : (b : ℕ) (bs : List ℕ) → ends_block (b ∷ bs) ≡ true → (behind : List ℕ) × (b ∷ bs ≡ 42 ∷ 47 ∷ behind)
ends_at b [] h = absurd (no (nat_eq b 42) h)
  where
    no : (t : Bool) → (t && false) ≡ true → ⊥
    no true e = cc
    no false e = cc
ends_at b (c ∷ cs) h =
    let p = and_parts (nat_eq b 42) (nat_eq c 47) h in
    let first = is_byte b 42 p.0 in
    let second = is_byte c 47 p.1 in
    (cs, cc)

no_end_in_none : HasNoEnd []
no_end_in_none [] back e = cc
no_end_in_none (f ∷ fs) back e = cc

no_end_more : (b : ℕ) (bs content behind : List ℕ) → ends_block (b ∷ bs) ≡ false → bs ≡ content ++ 42 ∷ 47 ∷ behind → HasNoEnd content
    → HasNoEnd (b ∷ content)
no_end_more b bs content behind h e n [] back g =
    let first : b ≡ 42 = cc in
    let rest : content ≡ 47 ∷ back = cc in
    let whole : bs ≡ 47 ∷ (back ++ 42 ∷ 47 ∷ behind) = e ∙ ap (λ x. x ++ 42 ∷ 47 ∷ behind) rest in
    let no : ends_block (42 ∷ 47 ∷ (back ++ 42 ∷ 47 ∷ behind)) ≡ false = subst (λ x. ends_block (x ∷ 47 ∷ (back ++ 42 ∷ 47 ∷ behind)) ≡ false) first (subst (λ x. ends_block (b ∷ x) ≡ false) whole h) in
    cc
no_end_more b bs content behind h e n (f ∷ fs) back g =
    let rest : content ≡ fs ++ (codes "*/" ++ back) = cc in
    n fs back rest

some_more : (o : Option ℕ) (n : ℕ) → option_map suc o ≡ Some n → (m : ℕ) × (o ≡ Some m) × (n ≡ suc m)
some_more None n h = absurd cc
some_more (Some m) n h = let e : n ≡ suc m = cc in (m, refl, e)

none_more : (o : Option ℕ) → option_map suc o ≡ None → o ≡ None
none_more None h = refl
none_more (Some m) h = absurd cc

closes_more : (b : ℕ) (bs : List ℕ) (n m : ℕ) → ends_block (b ∷ bs) ≡ false → n ≡ suc m → Closes bs m → Closes (b ∷ bs) n
closes_more b bs n m h e c =
    record {
      content = b ∷ c.content;
      behind = c.behind;
      parts = ap (λ x. b ∷ x) c.parts;
      no_end = no_end_more b bs c.content c.behind h c.parts c.no_end;
      count = omega (arith, c.count, e);
    }

closes : (rest : List ℕ) (n : ℕ) → block_length rest ≡ Some n → Closes rest n
closes [] n h = absurd cc
closes (b ∷ bs) n h = by_test (ends_block (b ∷ bs)) refl (λ m e. closes bs m e)
  where
    by_test : (t : Bool) → ends_block (b ∷ bs) ≡ t → ((m : ℕ) → block_length bs ≡ Some m → Closes bs m) → Closes (b ∷ bs) n
    by_test true k further =
        let o : block_length (b ∷ bs) ≡ Some 0 = rw k refl in
        let zero_is : 0 ≡ n = cc in
        let at = ends_at b bs k in
        record { content = []; behind = at.0; parts = at.1; no_end = no_end_in_none; count = zero_is }
    by_test false k further =
        let o : block_length (b ∷ bs) ≡ option_map suc (block_length bs) = rw k refl in
        let m = some_more (block_length bs) n (sym o ∙ h) in
        closes_more b bs n m.0 k m.2 (further m.0 m.1)

never_closes : (rest content behind : List ℕ) → block_length rest ≡ None → rest ≡ content ++ 42 ∷ 47 ∷ behind → ⊥
never_closes [] [] behind h e = cc
never_closes [] (c ∷ cs) behind h e = cc
never_closes (b ∷ bs) content behind h e = by_test (ends_block (b ∷ bs)) refl (λ cs g k. never_closes bs cs behind g k)
  where
    by_content : (content : List ℕ) → ends_block (b ∷ bs) ≡ false → b ∷ bs ≡ content ++ 42 ∷ 47 ∷ behind → block_length bs ≡ None
        → ((cs : List ℕ) → block_length bs ≡ None → bs ≡ cs ++ 42 ∷ 47 ∷ behind → ⊥)
        → ⊥
    by_content [] k g none further = let no : ends_block (42 ∷ 47 ∷ behind) ≡ false = subst (λ x. ends_block x ≡ false) g k in cc
    by_content (c ∷ cs) k g none further = let rest : bs ≡ cs ++ 42 ∷ 47 ∷ behind = cc in further cs none rest

    by_test : (t : Bool) → ends_block (b ∷ bs) ≡ t → ((cs : List ℕ) → block_length bs ≡ None → bs ≡ cs ++ 42 ∷ 47 ∷ behind → ⊥) → ⊥
    by_test true k further = let o : block_length (b ∷ bs) ≡ Some 0 = rw k refl in absurd cc
    by_test false k further =
        let o : block_length (b ∷ bs) ≡ option_map suc (block_length bs) = rw k refl in
        by_content content k e (none_more (block_length bs) (sym o ∙ h)) further

block_found : (rest : List ℕ) (n : ℕ) → Closes rest n → Stands (47 ∷ 42 ∷ rest) (n + 4) no_tokens
block_found rest n c =
    record {
      piece = block_comment c.content;
      behind = c.behind;
      bytes_are = ap (λ x. 47 ∷ 42 ∷ x) (c.parts ∙ sym (append_assoc c.content (codes "*/") c.behind));
      is = c.no_end;
      count = omega (arith, c.count, length-append c.content (codes "*/"));
      tokens = λ before. refl;
      some = omega arith;
    }

pub no_blank_slash : (b : ℕ) → In white_space b → b ≢ 47
no_blank_slash b m =
    all_at (λ c. c ≢ 47) white_space ((λ h. omega (arith, h)), ((λ h. omega (arith, h)), ((λ h. omega (arith, h)), ((λ h. omega (arith, h)), tt)))) b m

unclosed : (rest : List ℕ) → block_length rest ≡ None → BeginsNoPiece (47 ∷ 42 ∷ rest)
unclosed rest h (blank b) behind e is = let first : b ≡ 47 = cc in no_blank_slash b is first
unclosed rest h (line_comment content) behind e is = let no : ◌≡◌ {A = ℕ} 42 47 = cc in omega (arith, no)
unclosed rest h (block_comment content) behind e is =
    let inside : rest ≡ (content ++ codes "*/") ++ behind = cc in
    never_closes rest content behind h (inside ∙ append_assoc content (codes "*/") behind)
unclosed rest h (spelled t s) behind e is = is.2.1 (rest, sym e)
unclosed rest h (questioned width value s) behind e is =
    (constant_no_comment width value s (63 ∷ behind) is).1 (rest, sym (e ∙ append_assoc s (codes "?") behind))

pub block_stands : (rest : List ℕ) → FrontStands (47 ∷ 42 ∷ rest) (block_front (block_length rest))
block_stands rest = by_length (block_length rest) refl
  where
    by_length : (o : Option ℕ) → block_length rest ≡ o → FrontStands (47 ∷ 42 ∷ rest) (block_front o)
    by_length None h = unclosed rest h
    by_length (Some n) h = block_found rest n (closes rest n h)

-- ---- a comment has one content

all_inside : (s : List ℕ) → AllByRecursion (λ b. b ≢ 10) s → AllPass is_inside s
all_inside [] h = tt
all_inside (b ∷ bs) h = (by_test (nat_eq b 10) refl, all_inside bs h.1)
  where
    by_test : (t : Bool) → nat_eq b 10 ≡ t → is_inside b ≡ true
    by_test true e = absurd (h.0 (is_byte b 10 e))
    by_test false e = rw e refl

no_more_inside : (behind : List ℕ) → (behind ≡ []) ⊎ BeginsWith behind (10 ∷ []) → NotNext is_inside behind
no_more_inside behind (inl e) = subst (NotNext is_inside) (sym e) tt
no_more_inside behind (inr h) = subst (NotNext is_inside) (sym h.1) refl

pub same_line : (c d behind more : List ℕ) → IsVPiece (line_comment c) behind → IsVPiece (line_comment d) more → c ++ behind ≡ d ++ more → c ≡ d
same_line c d behind more h k e =
    (same_runs is_inside c behind d more (all_inside c h.0) (all_inside d k.0) (no_more_inside behind h.1) (no_more_inside more k.1) e).0

no_end_behind : (b : ℕ) (bs : List ℕ) → HasNoEnd (b ∷ bs) → HasNoEnd bs
no_end_behind b bs h front back e = h (b ∷ front) back (ap (λ x. b ∷ x) e)

no_early_end : (b : ℕ) (bs behind : List ℕ) → HasNoEnd (b ∷ bs) → (more : List ℕ) → b ∷ (bs ++ 42 ∷ 47 ∷ behind) ≡ 42 ∷ 47 ∷ more → ⊥
no_early_end b [] behind h more e = let no : ◌≡◌ {A = ℕ} 42 47 = cc in omega (arith, no)
no_early_end b (c ∷ cs) behind h more e =
    let first : b ≡ 42 = cc in
    let second : c ≡ 47 = cc in
    h [] cs cc

block_length_is : (c behind : List ℕ) → HasNoEnd c → block_length (c ++ 42 ∷ 47 ∷ behind) ≡ Some (length c)
block_length_is [] behind h = refl
block_length_is (b ∷ bs) behind h = by_test (ends_block (b ∷ (bs ++ 42 ∷ 47 ∷ behind))) refl (block_length_is bs behind (no_end_behind b bs h))
  where
    by_test : (t : Bool) → ends_block (b ∷ (bs ++ 42 ∷ 47 ∷ behind)) ≡ t → block_length (bs ++ 42 ∷ 47 ∷ behind) ≡ Some (length bs)
        → block_length (b ∷ (bs ++ 42 ∷ 47 ∷ behind)) ≡ Some (length (b ∷ bs))
    by_test true k rest = let e = ends_at b (bs ++ 42 ∷ 47 ∷ behind) k in absurd (no_early_end b bs behind h e.0 e.1)
    by_test false k rest = rw (k, rest) refl

pub same_block_length : (c d behind more : List ℕ) → HasNoEnd c → HasNoEnd d → c ++ 42 ∷ 47 ∷ behind ≡ d ++ 42 ∷ 47 ∷ more → length c ≡ length d
same_block_length c d behind more h k e =
    let both : Some (length c) ≡ Some (length d) = sym (block_length_is c behind h) ∙ ap block_length e ∙ block_length_is d more k in
    cc
