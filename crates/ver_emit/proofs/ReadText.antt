-- Texts that are read as tokens which are alike to tokens of the grammar.
use Rattle.std.proofs.Common.{◌≡◌, ℕ, List, [], ◌∷◌, ◌++◌, Bool, true, false, ◌∙◌, ap, refl, subst, Some}
use Rattle.std.specs.List.{list_all}
use Rattle.std.proofs.lemmas.Bool.{and_parts}
use Rattle.ver_ast.specs.Tokens.{VToken, number, constant}
use Rattle.ver_ast.specs.Spells.{IsAlike}
use Rattle.ver_ast.specs.working.TokenSteps.{tokens}
use Rattle.ver_ast.proofs.Alike.{AlikeEach}

-- the text, and the tokens of the grammar
pub record Reads (text : List ℕ) (gs : List VToken) : Type 0 where
  pub read : List VToken
  pub is_read : tokens text ≡ Some read
  pub alike : AlikeEach gs read

-- one text and one list in other words
pub moved : (text body : List ℕ) (gs hs : List VToken) → text ≡ body → Reads body gs → gs ≡ hs → Reads text hs
moved text body gs hs e r f = record { read = r.read; is_read = ap tokens e ∙ r.is_read; alike = subst (λ ts. AlikeEach ts r.read) f r.alike }

-- a token that no text spells in two ways
abbrev pub is_fixed : VToken → Bool
is_fixed (number n) = false
is_fixed (constant width value) = false
is_fixed _ = true

fixed_alike : (t : VToken) → is_fixed t ≡ true → IsAlike t t
fixed_alike (number n) h = absurd cc
fixed_alike (constant width value) h = absurd cc
fixed_alike t h = refl

pub alike_behind : (us gs ts : List VToken) → list_all is_fixed us ≡ true → AlikeEach gs ts → AlikeEach (us ++ gs) (us ++ ts)
alike_behind [] gs ts h k = k
alike_behind (u ∷ us) gs ts h k =
    let p = and_parts (is_fixed u) (list_all is_fixed us) h in
    (fixed_alike u p.0, alike_behind us gs ts p.1 k)
