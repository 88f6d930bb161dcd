-- What is read of all tokens.
use Rattle.std.proofs.Common.{◌≡◌, ℕ, List, [], ◌∷◌, ◌++◌, Result, Ok, Err, refl, sym, ap, ◌∙◌, subst}
use Rattle.ver_ast.specs.declared.tree.Verilog.{Verilog}
use Rattle.ver_ast.specs.Tokens.{VToken}
use Rattle.ver_ast.specs.Pieces.{PlacedToken}
use Rattle.ver_ast.specs.Grammar.{module_tokens}
use Rattle.ver_ast.specs.Spells.{IsAlike, AreAlike}
use Rattle.ver_lex.specs.declared.lexeme.Next.{Next}
use Rattle.ver_parse.specs.declared.parser.Parser.{Parser}
use Rattle.ver_parse.specs.declared.stop.Stop.{Stop}
use Rattle.ver_parse.specs.working.Symbols.{Symbol}
use Rattle.ver_parse.specs.working.Reading.{Outcome, complete, unexpected, read_on, whole}
use Rattle.ver_parse.specs.working.Reads.{rest, Takes, goes, Gives, IsStop, Halts, IsEnd, IsFirst}
use Rattle.ver_parse.proofs.Leading.{reads_end, goes_no_further}

pub alike : (gs : List VToken) (ts : List PlacedToken) → Takes gs ts [] → AreAlike gs ts
alike [] ts e = subst (λ us. AreAlike [] us) (sym e) tt
alike (g ∷ gs) ts (t, more, e, i, h) = subst (λ us. AreAlike (g ∷ gs) us) (sym e) (i, alike gs more h)

pub all_alike : (gs : List VToken) (x y : Parser) (s : Stop) → Gives whole gs x y → IsEnd y s → AreAlike gs (rest x)
all_alike gs x y s p e = alike gs (rest x) (subst (λ us. Takes gs (rest x) us) e.nothing_left p.taken)

pub reads_all : (gs : List VToken) (x y : Parser) (s : Stop) → Gives whole gs x y → IsEnd y s → goes x whole ≡ complete
reads_all gs x y s p e = p.goes_on [] ∙ ap (λ us. read_on y.depth [] us) e.nothing_left ∙ reads_end y.depth []

pub reads_more : (gs : List VToken) (x y : Parser) (n : Next) → Gives whole gs x y → IsFirst y n → goes x whole ≡ unexpected n.place
reads_more gs x y n p f =
    p.goes_on [] ∙ ap (λ us. read_on y.depth [] us) f.tokens_are ∙ goes_no_further y.depth [] f.token f.more refl ∙ ap (λ q. unexpected q) (sym f.place_is)

-- from the first token on, with no brace open
pub from_first : (x : Parser) (ts : List PlacedToken) → rest x ≡ ts → x.depth ≡ 0 → goes x whole ≡ read_on 0 whole ts
from_first x ts e d = ap (λ (n : ℕ). read_on n whole (rest x)) d ∙ ap (λ us. read_on 0 whole us) e

pub stops_whole : (x : Parser) (ts : List PlacedToken) (s : Stop) → rest x ≡ ts → x.depth ≡ 0 → Halts whole x s → IsStop s (read_on 0 whole ts)
stops_whole x ts s e d h = subst (IsStop s) (from_first x ts e d) (h.stops [])
