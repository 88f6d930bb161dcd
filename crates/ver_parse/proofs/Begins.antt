-- What is read so far begins a text of the grammar.
use Rattle.std.proofs.Common.{◌≡◌, ℕ, List, [], ◌∷◌, ◌++◌, map, flat_map, Option, Some, None, codes, refl, sym, ap, ◌∙◌, subst, append_assoc}
use Rattle.std.proofs.lemmas.List.{append-nil}
use Rattle.ver_ast.specs.declared.place.VPlace.{VPlace}
use Rattle.ver_ast.specs.declared.tree.Verilog.{Verilog}
use Rattle.ver_ast.specs.Grammar.{ports_tokens, item_tokens, module_tokens}
use Rattle.ver_ast.specs.Pieces.{PlacedToken}
use Rattle.ver_ast.specs.Spells.{IsAlike, AreAlike}
use Rattle.ver_ast.specs.Tokens.{VToken, word, digit_zero, number, constant, sign, double, signed_shift, signed_word, question_digit}
use Rattle.ver_parse.specs.Fronts.{AreTokensOf, IsText, IsFront}
use Rattle.ver_parse.specs.working.Symbols.{Symbol, a_token, a_name, a_number, a_constant, a_range, a_mark, a_direction, ports, more_ports, items, an_item, behind_register, behind_edge, a_block, writes, an_atom, a_select, behind_index, braced, more_atoms, a_side, other_side, behind_side_name, behind_bracket, behind_atom, behind_signed, a_signed_operator}
use Rattle.ver_parse.specs.working.Steps.{Step, takes, skips, refuses, only_if, same_token, step}
use Rattle.ver_parse.specs.working.Reading.{by_step, behind, with_next, follows, whole}
use Rattle.ver_parse.proofs.FirstFaults.{Begins}
use Rattle.ver_parse.proofs.Stopping.{follows_none, follows_token}
use Rattle.ver_parse.proofs.Trees.{own, Tree, spell, Trees, spell_all, shortest}
use Rattle.ver_parse.proofs.Made.{Makes, Tells, only_so, own_alike}
use Rattle.ver_parse.proofs.AtomRows.{tells_an_atom, tells_select, tells_index, tells_braced, tells_more_atoms, tells_other_side, tells_side, tells_behind_atom, tells_side_name, tells_bracket, tells_signed, tells_operator}
use Rattle.ver_parse.proofs.ModuleRows.{tells_name, tells_number, tells_constant, tells_range, tells_mark, tells_direction, tells_ports, tells_more_ports, tells_edge, tells_block, tells_writes, tells_register, tells_item, tells_items, split}

-- ---- every step

tells_token : (g t : VToken) → Tells (a_token g) t (only_if (same_token g t) [])
tells_token g t = only_so (a_token g) t (same_token g t) [] (λ h x. record { tree = tt; token = own g; alike = own_alike g t h; spelled = λ rest. refl })

tells : (s : Symbol) (t : VToken) → Tells s t (step s t)
tells (a_token g) t = tells_token g t
tells a_name t = tells_name t
tells a_number t = tells_number t
tells a_constant t = tells_constant t
tells a_range t = tells_range t
tells a_mark t = tells_mark t
tells a_direction t = tells_direction t
tells ports t = tells_ports t
tells more_ports t = tells_more_ports t
tells items t = tells_items t
tells an_item t = tells_item t
tells behind_register t = tells_register t
tells behind_edge t = tells_edge t
tells a_block t = tells_block t
tells writes t = tells_writes t
tells an_atom t = tells_an_atom t
tells a_select t = tells_select t
tells behind_index t = tells_index t
tells braced t = tells_braced t
tells more_atoms t = tells_more_atoms t
tells a_side t = tells_side t
tells other_side t = tells_other_side t
tells behind_side_name t = tells_side_name t
tells behind_bracket t = tells_bracket t
tells behind_atom t = tells_behind_atom t
tells behind_signed t = tells_signed t
tells a_signed_operator t = tells_operator t

-- ---- back along the tokens

-- trees of all that was expected before a token, from those of what is expected behind it
record Before (todo : List Symbol) (t : VToken) (others : List VToken) : Type 0 where
  trees : Trees todo
  token : VToken
  alike : IsAlike token t
  spelled : spell_all todo trees [] ≡ token ∷ others

some_same : (a b : List Symbol) → Some a ≡ Some b → a ≡ b
some_same a b e = cc

Backward : List Symbol → VToken → Option (List Symbol) → Type 0
Backward todo t o = (next : List Symbol) → o ≡ Some next → (x : Trees next) → Before todo t (spell_all next x [])

taken_back : (s : Symbol) (ss todo : List Symbol) (t : VToken) → Tells s t (takes ss) → (x : Trees (ss ++ todo)) → Before (s ∷ todo) t (spell_all (ss ++ todo) x [])
taken_back s ss todo t told x =
    let p = split ss todo x in
    let m = told p.first in
    record { trees = (m.tree, p.others); token = m.token; alike = m.alike; spelled = m.spelled (spell_all todo p.others []) ∙ ap (λ l. m.token ∷ l) (sym (p.spelled [])) }

by_step_back : (s : Symbol) (todo : List Symbol) (t : VToken) (u : Step) (o : Option (List Symbol)) → Tells s t u → Backward todo t o → Backward (s ∷ todo) t (by_step u todo o)
unfolding Backward
by_step_back s todo t (takes ss) o told r next e x =
    subst (λ n. (y : Trees n) → Before (s ∷ todo) t (spell_all n y [])) (some_same (ss ++ todo) next e) (taken_back s ss todo t told) x
by_step_back s todo t skips o told r next e x =
    let b = r next e x in
    record { trees = (told.0, b.trees); token = b.token; alike = b.alike; spelled = told.1 (spell_all todo b.trees []) ∙ b.spelled }
by_step_back s todo t refuses o told r next e x = absurd (cc)

token_back : (todo : List Symbol) (t : VToken) → Backward todo t (behind todo t)
unfolding Backward
token_back [] t = λ next e x. absurd (cc)
token_back (s ∷ todo) t = by_step_back s todo t (step s t) (behind todo t) (tells s t) (token_back todo t)

-- the same for tokens
record AllBefore (todo : List Symbol) (front : List PlacedToken) (others : List VToken) : Type 0 where
  trees : Trees todo
  tokens : List VToken
  alike : AreAlike tokens front
  spelled : spell_all todo trees [] ≡ tokens ++ others

one_back : (todo next last : List Symbol) (t : PlacedToken) (front : List PlacedToken) (x : Trees last) → behind todo t.token ≡ Some next → AllBefore next front (spell_all last x [])
    → AllBefore todo (t ∷ front) (spell_all last x [])
unfolding Backward
one_back todo next last t front x e p =
    let b = token_back todo t.token next e p.trees in
    record { trees = b.trees; tokens = b.token ∷ p.tokens; alike = (b.alike, p.alike); spelled = b.spelled ∙ ap (λ l. b.token ∷ l) p.spelled }

back_by : (todo last : List Symbol) (t : PlacedToken) (front : List PlacedToken) (x : Trees last) (o : Option (List Symbol)) → behind todo t.token ≡ o → with_next o (λ n. follows n front) ≡ Some last
    → ((next : List Symbol) → follows next front ≡ Some last → AllBefore next front (spell_all last x [])) → AllBefore todo (t ∷ front) (spell_all last x [])
back_by todo last t front x None e h r = absurd (cc)
back_by todo last t front x (Some next) e h r = one_back todo next last t front x e (r next h)

back : (front : List PlacedToken) (todo last : List Symbol) (x : Trees last) → follows todo front ≡ Some last → AllBefore todo front (spell_all last x [])
back [] todo last x e =
    subst (λ n. AllBefore n [] (spell_all last x [])) (sym (some_same todo last (sym (follows_none todo) ∙ e))) (record { trees = x; tokens = []; alike = tt; spelled = refl })
back (t ∷ front) todo last x e = back_by todo last t front x (behind todo t.token) refl (sym (follows_token todo t front) ∙ e) (λ next h. back front next last x h)

-- ---- a shortest end

abbrev AreSelves : List VToken → Type 0
AreSelves [] = Unit {0}
AreSelves (g ∷ gs) = IsAlike g g × AreSelves gs

own_self : (g : VToken) → IsAlike (own g) (own g)
own_self (word w) = refl
own_self digit_zero = refl
own_self (number n) = refl
own_self (constant w x) = refl
own_self (sign b) = refl
own_self (double a b) = refl
own_self signed_shift = refl
own_self signed_word = refl
own_self question_digit = refl

shortest_selves : (s : Symbol) (rest : List VToken) → AreSelves rest → AreSelves (spell s (shortest s) rest)
shortest_selves (a_token g) rest h = (own_self g, h)
shortest_selves a_name rest h = (refl, h)
shortest_selves a_number rest h = (refl, h)
shortest_selves a_constant rest h = ((refl, refl), h)
shortest_selves a_range rest h = h
shortest_selves a_mark rest h = h
shortest_selves a_direction rest h = (refl, h)
shortest_selves ports rest h = (refl, h)
shortest_selves more_ports rest h = (refl, h)
shortest_selves items rest h = (refl, h)
shortest_selves an_item rest h = (refl, (refl, (refl, h)))
shortest_selves behind_register rest h = (refl, h)
shortest_selves behind_edge rest h = (refl, (refl, (refl, (refl, (refl, h)))))
shortest_selves a_block rest h = (refl, (refl, (refl, (refl, h))))
shortest_selves writes rest h = (refl, h)
shortest_selves an_atom rest h = (refl, h)
shortest_selves a_select rest h = h
shortest_selves behind_index rest h = (refl, h)
shortest_selves braced rest h = (refl, (refl, h))
shortest_selves more_atoms rest h = (refl, h)
shortest_selves a_side rest h = (refl, h)
shortest_selves other_side rest h = (refl, h)
shortest_selves behind_side_name rest h = h
shortest_selves behind_bracket rest h = (refl, (refl, h))
shortest_selves behind_atom rest h = h
shortest_selves behind_signed rest h = (refl, (refl, h))
shortest_selves a_signed_operator rest h = (refl, h)

shortest_all : (ss : List Symbol) → Trees ss
shortest_all [] = tt
shortest_all (s ∷ ss) = (shortest s, shortest_all ss)

all_selves : (ss : List Symbol) → AreSelves (spell_all ss (shortest_all ss) [])
unfolding shortest_all
all_selves [] = tt
all_selves (s ∷ ss) = shortest_selves s (spell_all ss (shortest_all ss) []) (all_selves ss)

origin : VPlace
origin = record { line = 1; col = 1 }

abbrev placed : VToken → PlacedToken
placed g = record { token = g; place = origin }

selves_alike : (gs : List VToken) → AreSelves gs → AreAlike gs (map placed gs)
selves_alike [] h = tt
selves_alike (g ∷ gs) h = (h.0, selves_alike gs h.1)

alike_append : (gs hs : List VToken) (ts us : List PlacedToken) → AreAlike gs ts → AreAlike hs us → AreAlike (gs ++ hs) (ts ++ us)
alike_append [] hs [] us h k = k
alike_append [] hs (t ∷ ts) us h k = absurd h
alike_append (g ∷ gs) hs [] us h k = absurd h
alike_append (g ∷ gs) hs (t ∷ ts) us h k = (h.0, alike_append gs hs ts us h.1 k)

-- ---- a whole text

verilog_of : Trees whole → Verilog
verilog_of x = record { name = x.1.0.0; ports = x.1.1.1.0.0; items = x.1.1.1.1.1.0.0; places = [] }

pub regrouped : (t u v w x y : VToken) (ps is : List VToken) → t ∷ u ∷ v ∷ ps ++ (w ∷ x ∷ is ++ y ∷ []) ≡ t ∷ u ∷ v ∷ ps ++ w ∷ x ∷ is ++ y ∷ []
regrouped t u v w x y ps is = simp append_assoc

module_spelled : (x : Trees whole) → spell_all whole x [] ≡ module_tokens (verilog_of x)
unfolding verilog_of
module_spelled x = regrouped (word (codes "module")) (word x.1.0.0) (sign 40) (sign 41) (sign 59) (word (codes "endmodule")) (ports_tokens x.1.1.1.0.0) (flat_map item_tokens x.1.1.1.1.1.0.0)

is_module : (x : Trees whole) (ts : List PlacedToken) → AreAlike (spell_all whole x []) ts → AreTokensOf (verilog_of x) ts
unfolding verilog_of
is_module x ts h = record {
  tokens_are = subst (λ gs. AreAlike gs ts) (module_spelled x) h;
  names = record { of_module = x.1.0.1; of_ports = x.1.1.1.0.1; of_items = x.1.1.1.1.1.0.1 };
  numbers = x.1.1.1.1.1.0.2;
}

pub begins : Begins
begins front last e =
    let x = shortest_all last in
    let others : List VToken = spell_all last x [] in
    let b = back front whole last x e in
    let more : List PlacedToken = map placed others in
    let whole_alike : AreAlike (b.tokens ++ others) (front ++ more) = alike_append b.tokens others front more b.alike (selves_alike others (all_selves last)) in
    (more, (verilog_of b.trees, is_module b.trees (front ++ more) (subst (λ gs. AreAlike gs (front ++ more)) (sym b.spelled) whole_alike)))

-- and where nothing more is expected, it is such a text
pub all_read : (ts : List PlacedToken) → follows whole ts ≡ Some [] → IsText ts
all_read ts e =
    let b = back ts whole [] tt e in
    let same : spell_all whole b.trees [] ≡ b.tokens = b.spelled ∙ append-nil b.tokens in
    (verilog_of b.trees, is_module b.trees ts (subst (λ gs. AreAlike gs ts) (sym same) b.alike))
