-- Which bytes spell which tree.
-- The tokens of the bytes are those of the tree: a num of the tree is digits, also with zeros in front. The tree has the places of the text's words, numbers,
-- constants, `$signed`, `[` and `{`. Each name in it is spelled as a name and not reserved.
use Rattle.std.specs.Prelude.{◌≡◌, ℕ, ◌<◌, ◌^◌, ◌||◌, Option, Some, None, List, [], ◌∷◌, map, filter, min, Bool, true, false, nat_eq}
use Rattle.std.specs.List.{AllByRecursion}
use Rattle.ver_ast.specs.declared.tree.Verilog.{Verilog}
use Rattle.ver_ast.specs.declared.tree.Item.{Item}
use Rattle.ver_ast.specs.declared.tree.Item.TheVariants as item
use Rattle.ver_ast.specs.declared.place.VPlace.{VPlace}
use Rattle.ver_ast.specs.ItemNames.{declared, item_names}
use Rattle.ver_words.specs.Names.{IsName}
use Rattle.ver_ast.specs.Tokens.{VToken, digit_zero, number, constant, sign, double, signed_shift}
use Rattle.ver_ast.specs.Pieces.{PlacedToken, HasTokens}
use Rattle.ver_ast.specs.Grammar.{module_tokens}

-- the largest number that a tree counts; what is larger is past every limit, and counts as this
abbrev pub counted : ℕ → ℕ
counted n = min n 4294967294

-- digits count this number
abbrev pub Counts : ℕ → VToken → Type 0
Counts n digit_zero = n ≡ 0
Counts n (number m) = n ≡ counted m
Counts n _ = ⊥

-- a constant of this width and this number; the least number that fits no width stands for all from it on
abbrev pub CountsConstant : ℕ → ℕ → VToken → Type 0
CountsConstant width value (constant w x) = (width ≡ counted w) × (value ≡ min x (2 ^ 128))
CountsConstant width value _ = ⊥

-- a token of the grammar, and one of a text
abbrev pub IsAlike : VToken → VToken → Type 0
IsAlike (number n) t = Counts n t
IsAlike (constant width value) t = CountsConstant width value t
IsAlike g t = g ≡ t

abbrev pub AreAlike : List VToken → List PlacedToken → Type 0
AreAlike [] [] = Unit {0}
AreAlike (g ∷ gs) (t ∷ ts) = IsAlike g t.token × AreAlike gs ts
AreAlike _ _ = ⊥

-- of the signs only `[` and `{`
abbrev pub has_place : VToken → Bool
has_place (sign b) = nat_eq b 91 || nat_eq b 123
has_place (double a b) = false
has_place signed_shift = false
has_place _ = true

abbrev pub places_of : List PlacedToken → List VPlace
places_of ts = map (λ t. t.place) (filter (λ t. has_place t.token) ts)

abbrev pub AreVerilogNames : List (List ℕ) → Type 0
AreVerilogNames = AllByRecursion IsName

-- each name that an item declares or uses is one
abbrev pub HasItemNames : Item → Type 0
HasItemNames i = AreVerilogNames (declared i) × AreVerilogNames (item_names i)

-- each name that stands in the tree is one
pub record HasNames (v : Verilog) : Type 0 where
  pub of_module : IsName v.name
  pub of_ports : AllByRecursion (λ p. IsName p.name) v.ports
  pub of_items : AllByRecursion HasItemNames v.items

-- an asynchronous block's number is in its type: a larger one is none
abbrev pub IsInType : Option ℕ → Type 0
IsInType None = Unit {0}
IsInType (Some x) = x < 2 ^ 128

abbrev pub HasNumberInType : Item → Type 0
HasNumberInType (item.Resetting b) = IsInType b.value.number
HasNumberInType _ = Unit {0}

pub record VSpells (bytes : List ℕ) (v : Verilog) : Type 0 where
  pub tokens : List PlacedToken
  pub of_text : HasTokens bytes tokens
  pub tokens_are : AreAlike (module_tokens v) tokens
  pub places_are : v.places ≡ places_of tokens
  pub names : HasNames v
  pub numbers : AllByRecursion HasNumberInType v.items
