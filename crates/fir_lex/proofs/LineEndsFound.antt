-- What is read to the end of a line is a comment or none, and the line's end.
use Rattle.std.proofs.Common.{◌≡◌, ◌≢◌, ℕ, suc, ◌<◌, Bool, true, false, ◌&&◌, eqb, List, [], ◌∷◌, ◌++◌, length, refl, sym, ap, ◌∙◌, inl, inr, ◌⊎◌, subst, length-append, arith}
use Rattle.std.proofs.lemmas.Bool.{eqb-true, both_ways, or_cases, or_parts, and_parts}
use Rattle.std.proofs.lemmas.List.Elements.{All-from_recursion}
use Rattle.fir_lex.specs.working.Bytes.{starts_with_byte, ends_line}
use Rattle.fir_lex.specs.working.Front.{comment_length}
use Rattle.fir_lex.specs.working.Lexed.{is_idle}
use Rattle.fir_lex.specs.Lines.{IsComment, EndsLine}
use Rattle.fir_lex.proofs.Lengths.{comment_ends, comment_goes_on}
use Rattle.fir_lex.proofs.OneLine.{NoNewline, no_newline, nothing_ends}
use Rattle.fir_lex.proofs.LineEnds.{Apart}

-- the text ends, or the line
abbrev pub AtEnd : List ℕ → Type 0
AtEnd bytes = (bytes ≡ []) ⊎ (ends_line bytes ≡ true)

-- so many bytes on one line, up to an end
pub record OneLine (bytes : List ℕ) : Type 0 where
  pub front : List ℕ
  pub behind : List ℕ
  pub parts : bytes ≡ front ++ behind
  pub long : comment_length bytes ≡ length front
  pub one : NoNewline front
  pub ends : AtEnd behind
  pub apart : Apart front behind

-- the first of these bytes is no end, and the others are apart from it
apart_before : (b : ℕ) (s tail : List ℕ) → ends_line (b ∷ s ++ tail) ≡ false → Apart s tail → Apart (b ∷ s) tail
apart_before b [] tail stays apart ends = by_last ends.0 ends.1
  where
    by_last : (front : List ℕ) → b ∷ [] ≡ front ++ 13 ∷ [] → starts_with_byte 10 tail ≡ false
    by_last [] e =
        let is : b ≡ 13 = cc in
        let off : (eqb b 13 && starts_with_byte 10 tail) ≡ false = (or_parts (eqb b 10) _ stays).1 in
        rw is at off
    by_last (x ∷ xs) e = absurd (nothing_ends 13 (xs, (cc)))
apart_before b (c ∷ cs) tail stays apart ends = by_front ends.0 ends.1
  where
    by_front : (front : List ℕ) → b ∷ c ∷ cs ≡ front ++ 13 ∷ [] → starts_with_byte 10 tail ≡ false
    by_front [] e = absurd (cc)
    by_front (x ∷ xs) e = apart (xs, (cc))

one_line_at : (b : ℕ) (bs : List ℕ) (t : Bool) → ends_line (b ∷ bs) ≡ t → OneLine bs → OneLine (b ∷ bs)
one_line_at b bs true e deep = record {
  front = [];
  behind = b ∷ bs;
  parts = refl;
  long = comment_ends (b ∷ bs) e;
  one = tt;
  ends = inr e;
  apart = λ h. absurd (nothing_ends 13 h);
}
one_line_at b bs false e deep = record {
  front = b ∷ deep.front;
  behind = deep.behind;
  parts = ap {B = List ℕ} (λ (s : List ℕ). b ∷ s) deep.parts;
  long = comment_goes_on b bs e ∙ ap suc deep.long;
  one = (no_newline b bs e, deep.one);
  ends = deep.ends;
  apart = apart_before b deep.front deep.behind (subst (λ (s : List ℕ). ends_line (b ∷ s) ≡ false) deep.parts e) deep.apart;
}

pub one_line : (bytes : List ℕ) → OneLine bytes
one_line [] = record {
  front = [];
  behind = [];
  parts = refl;
  long = refl;
  one = tt;
  ends = inl refl;
  apart = λ h. absurd (nothing_ends 13 h);
}
one_line (b ∷ bs) = one_line_at b bs (ends_line (b ∷ bs)) refl (one_line bs)

-- an end, behind a comment or none
pub record Ended (comment bytes : List ℕ) : Type 0 where
  pub end : List ℕ
  pub behind : List ℕ
  pub parts : bytes ≡ end ++ behind
  pub ends : EndsLine comment end behind
  pub shorter : (bytes ≡ [] → ⊥) → length behind < length bytes

newline : (comment : List ℕ) (b : ℕ) (bs : List ℕ) → b ≡ 10 → Apart comment (b ∷ bs) → Ended comment (b ∷ bs)
newline comment b bs is apart = record {
  end = 10 ∷ [];
  behind = bs;
  parts = ap {B = List ℕ} (λ (x : ℕ). x ∷ bs) is;
  ends = inl (refl, (λ h. both_ways (eqb b 10) (apart h) (rw is refl)));
  shorter = λ some. omega arith;
}

return : (comment : List ℕ) (b : ℕ) (bs : List ℕ) → b ≡ 13 → starts_with_byte 10 bs ≡ true → Ended comment (b ∷ bs)
return comment b [] is e = absurd (cc)
return comment b (c ∷ cs) is e = record {
  end = 13 ∷ 10 ∷ [];
  behind = cs;
  parts = ap {B = List ℕ} (λ (x : ℕ). x ∷ c ∷ cs) is ∙ ap {B = List ℕ} (λ (x : ℕ). 13 ∷ x ∷ cs) (eqb-true c 10 e);
  ends = inr (inl refl);
  shorter = λ some. omega arith;
}

pub ended : (comment bytes : List ℕ) → AtEnd bytes → Apart comment bytes → Ended comment bytes
ended comment [] at apart = record {
  end = [];
  behind = [];
  parts = refl;
  ends = inr (inr (refl, refl));
  shorter = λ some. absurd (some refl);
}
ended comment (b ∷ bs) (inl e) apart = absurd (cc)
ended comment (b ∷ bs) (inr e) apart = by_byte (or_cases (eqb b 10) _ e)
  where
    by_byte : (eqb b 10 ≡ true) ⊎ ((eqb b 13 && starts_with_byte 10 bs) ≡ true) → Ended comment (b ∷ bs)
    by_byte (inl h) = newline comment b bs (eqb-true b 10 h) apart
    by_byte (inr h) = let both = and_parts (eqb b 13) _ h in return comment b bs (eqb-true b 13 both.0) both.1

-- a comment or none, and an end
pub record TailFound (bytes : List ℕ) : Type 0 where
  pub comment : List ℕ
  pub end : List ℕ
  pub behind : List ℕ
  pub parts : bytes ≡ comment ++ (end ++ behind)
  pub is_comment : IsComment comment
  pub ends : EndsLine comment end behind
  pub long : comment_length bytes ≡ length comment
  pub shorter : (bytes ≡ [] → ⊥) → length behind < length bytes

pub no_comment : (bytes : List ℕ) → AtEnd bytes → TailFound bytes
no_comment bytes at =
    let e = ended [] bytes at (λ h. absurd (nothing_ends 13 h)) in record {
      comment = [];
      end = e.end;
      behind = e.behind;
      parts = e.parts;
      is_comment = inl refl;
      ends = e.ends;
      long = no_length at;
      shorter = e.shorter;
    }
  where
    no_length : AtEnd bytes → comment_length bytes ≡ 0
    no_length (inl e) = ap comment_length e
    no_length (inr e) = comment_ends bytes e

semicolon_before : (bs : List ℕ) → TailFound (59 ∷ bs)
semicolon_before bs =
    let o = one_line bs in
    let e = ended (59 ∷ o.front) o.behind o.ends (apart_before 59 o.front o.behind refl o.apart) in record {
      comment = 59 ∷ o.front;
      end = e.end;
      behind = e.behind;
      parts = ap {B = List ℕ} (λ (s : List ℕ). 59 ∷ s) (o.parts ∙ ap (λ (s : List ℕ). o.front ++ s) e.parts);
      is_comment = inr (o.front, refl, All-from_recursion (λ b. b ≢ 10) o.front o.one);
      ends = e.ends;
      long = comment_goes_on 59 bs refl ∙ ap suc o.long;
      shorter = λ some. omega (arith, ap length o.parts, length-append o.front o.behind, ap length e.parts, length-append e.end e.behind);
    }

pub semicolon : (b : ℕ) (bs : List ℕ) → b ≡ 59 → TailFound (b ∷ bs)
semicolon b bs is = subst (λ (x : ℕ). TailFound (x ∷ bs)) (sym is) (semicolon_before bs)

pub tail_found : (bytes : List ℕ) → is_idle bytes ≡ true → TailFound bytes
tail_found [] e = no_comment [] (inl refl)
tail_found (b ∷ bs) e = by_byte (or_cases (ends_line (b ∷ bs)) (eqb b 59) e)
  where
    by_byte : (ends_line (b ∷ bs) ≡ true) ⊎ (eqb b 59 ≡ true) → TailFound (b ∷ bs)
    by_byte (inl h) = no_comment (b ∷ bs) (inr h)
    by_byte (inr h) = semicolon b bs (eqb-true b 59 h)
