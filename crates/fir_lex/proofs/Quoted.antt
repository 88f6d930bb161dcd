-- Strings: the length that is found is that of characters, up to the quote.
use Rattle.std.proofs.Common.{◌≡◌, ℕ, suc, Bool, true, false, ◌&&◌, not, eqb, List, [], ◌∷◌, ◌++◌, length, flat_map, Some, None, refl, sym, ap, ◌∙◌, arith}
use Rattle.std.specs.Prelude.{option_map}
use Rattle.std.specs.List.{AllByRecursion}
use Rattle.std.proofs.lemmas.Bool.{eqb-true, eqb-false, ne_eqb}
use Rattle.fir_lex.specs.working.Bytes.{ends_line}
use Rattle.fir_lex.specs.working.Front.{string_length}
use Rattle.fir_lex.specs.Enclosed.{Character, plain, escaped, character_bytes, IsCharacter}
use Rattle.fir_lex.proofs.Lengths.{string_ends, string_closes, string_goes_on}
use Rattle.fir_lex.proofs.OneLine.{NoNewline, goes_on, no_newline, before}

abbrev pub bytes_of_characters : List Character → List ℕ
bytes_of_characters = flat_map character_bytes

abbrev pub EachCharacter : List Character → Type 0
EachCharacter = AllByRecursion IsCharacter

-- ---- characters up to a quote

pub characters_taken : (cs : List Character) (behind : List ℕ) → EachCharacter cs → NoNewline (bytes_of_characters cs)
    → string_length false (bytes_of_characters cs ++ 34 ∷ behind) ≡ Some (length (bytes_of_characters cs))
characters_taken [] behind all one = string_closes false 34 behind refl refl
characters_taken (plain b ∷ cs) behind all one =
    let rest = characters_taken cs behind all.1 one.1 in
    string_goes_on false b (bytes_of_characters cs ++ 34 ∷ behind) (goes_on b (bytes_of_characters cs) 34 behind one.0 one.1 (λ e. absurd (omega arith)))
    (ne_eqb b 34 all.0.0)
    ∙ rw (ne_eqb b 92 all.0.1) (ap (option_map suc) rest)
characters_taken (escaped b ∷ cs) behind all one =
    let rest = characters_taken cs behind all.1 one.1.1 in
    string_goes_on false 92 (b ∷ bytes_of_characters cs ++ 34 ∷ behind) refl refl
    ∙ ap (option_map suc)
    (string_goes_on true b (bytes_of_characters cs ++ 34 ∷ behind)
    (goes_on b (bytes_of_characters cs) 34 behind one.1.0 one.1.1 (λ e. absurd (omega arith))) refl ∙ ap (option_map suc) rest)

-- ---- what is found

-- characters, of which the first may stand behind a backslash that was read before
abbrev pub CharactersFrom : Bool → List ℕ → Type 0
CharactersFrom false content = (cs : List Character) × EachCharacter cs × (content ≡ bytes_of_characters cs)
CharactersFrom true content = (b : ℕ) × (cs : List Character) × EachCharacter cs × (content ≡ b ∷ bytes_of_characters cs)

pub record Quoted (escaped : Bool) (bytes : List ℕ) (n : ℕ) : Type 0 where
  pub content : List ℕ
  pub behind : List ℕ
  pub parts : bytes ≡ content ++ 34 ∷ behind
  pub long : n ≡ length content
  pub one_line : NoNewline content
  pub characters : CharactersFrom escaped content

-- a byte before characters
pub character_more : (flag : Bool) (b : ℕ) (content : List ℕ) → (not flag && eqb b 34) ≡ false → CharactersFrom (not flag && eqb b 92) content
    → CharactersFrom flag (b ∷ content)
character_more true b content stays from = (b, from.0, from.1, ap {B = List ℕ} (λ (s : List ℕ). b ∷ s) from.2)
character_more false b content stays from = by_backslash (eqb b 92) refl from
  where
    by_backslash : (t : Bool) → eqb b 92 ≡ t → CharactersFrom t content → CharactersFrom false (b ∷ content)
    by_backslash true e from = (escaped from.0 ∷ from.1, (tt, from.2), rw (eqb-true b 92 e, from.3) refl)
    by_backslash false e from = (plain b ∷ from.0, ((eqb-false b 34 stays, eqb-false b 92 e), from.1), rw from.2 refl)

closed_here : (flag : Bool) (b : ℕ) (bs : List ℕ) (n : ℕ) → (not flag && eqb b 34) ≡ true → Some 0 ≡ Some n → Quoted flag (b ∷ bs) n
closed_here true b bs n e is = absurd (cc)
closed_here false b bs n e is = record {
  content = [];
  behind = bs;
  parts = rw (eqb-true b 34 e) refl;
  long = cc;
  one_line = tt;
  characters = ([], tt, refl);
}

by_step : (flag : Bool) (b : ℕ) (bs : List ℕ) (n : ℕ) → ((f : Bool) (m : ℕ) → string_length f bs ≡ Some m → Quoted f bs m)
    → string_length flag (b ∷ bs) ≡ Some n → (t u : Bool) → ends_line (b ∷ bs) ≡ t → (not flag && eqb b 34) ≡ u → Quoted flag (b ∷ bs) n
by_step flag b bs n deep h true u e q = let none : None ≡ Some n = sym (string_ends flag (b ∷ bs) e) ∙ h in absurd (cc)
by_step flag b bs n deep h false true e q = closed_here flag b bs n q (sym (string_closes flag b bs e q) ∙ h)
by_step flag b bs n deep h false false e q =
    let less = before (string_length (not flag && eqb b 92) bs) n (sym (string_goes_on flag b bs e q) ∙ h) in
    let more = deep (not flag && eqb b 92) less.count less.found in record {
      content = b ∷ more.content;
      behind = more.behind;
      parts = ap {B = List ℕ} (λ (s : List ℕ). b ∷ s) more.parts;
      long = less.next ∙ ap suc more.long;
      one_line = (no_newline b bs e, more.one_line);
      characters = character_more flag b more.content q more.characters;
    }

pub quoted : (flag : Bool) (bytes : List ℕ) (n : ℕ) → string_length flag bytes ≡ Some n → Quoted flag bytes n
quoted flag [] n h = absurd (cc)
quoted flag (b ∷ bs) n h = by_step flag b bs n (λ f m e. quoted f bs m e) h (ends_line (b ∷ bs)) (not flag && eqb b 34) refl refl
