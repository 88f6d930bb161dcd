-- The steps at operands and right sides, each told of its trees.
use Rattle.std.proofs.Common.{◌≡◌, ℕ, suc, ◌+◌, ◌-◌, ◌^◌, List, [], ◌∷◌, ◌++◌, flat_map, min, Bool, true, false, nat_eq, if◌then◌else◌, Option, Some, None, refl, sym, ap, ◌∙◌, subst, append_assoc}
use Rattle.std.proofs.lemmas.List.{append-nil}
use Rattle.std.specs.List.{AllByRecursion}
use Rattle.ver_words.specs.Names.{IsName}
use Rattle.ver_ast.specs.declared.tree.UnaryOp.{UnaryOp}
use Rattle.ver_ast.specs.declared.tree.BinaryOp.{BinaryOp}
use Rattle.ver_ast.specs.declared.tree.SignedOp.{SignedOp}
use Rattle.ver_ast.specs.declared.tree.Rhs.{Rhs}
use Rattle.ver_ast.specs.declared.tree.Rhs.TheVariants as rhs
use Rattle.ver_ast.specs.Atoms as atom
use Rattle.ver_ast.specs.Atoms.{AtomTree}
use Rattle.ver_ast.specs.Grammar.{atom_tokens, next_atom_tokens, unary_sign, binary_token, unsigned_op, signed_tokens, rhs_tokens}
use Rattle.ver_ast.specs.Names.{atom_names, rhs_atoms}
use Rattle.ver_ast.specs.Spells.{IsAlike, counted, AreVerilogNames}
use Rattle.ver_ast.specs.Tokens.{VToken, word, digit_zero, number, constant, sign, double, signed_shift, signed_word, question_digit}
use Rattle.ver_parse.specs.working.Symbols.{Symbol, a_token, a_number, an_atom, a_select, behind_index, braced, more_atoms, a_side, other_side, behind_side_name, behind_bracket, behind_atom, behind_signed, a_signed_operator}
use Rattle.ver_parse.specs.working.Steps.{Step, takes, skips, refuses, is_name, same_token, atom_step, select_step, index_step, braced_step, more_atoms_step, by_unary, other_side_step, side_step, by_binary, behind_atom_step, side_name_step, bracket_step, signed_op, binary_of, unary_of, by_signed, signed_step}
use Rattle.ver_parse.proofs.Heads.{named, same_is, binary_self}
use Rattle.ver_parse.proofs.Loops.{all_append}
use Rattle.ver_parse.proofs.Trees.{Named, NamedAtom, NamedSide, SelectTree, unselected, selected, BracedTree, repeats, joins, EndTree, nothing, operates, chooses, BracketTree, selects, reads_word, NameEndTree, ends_so, brackets, SignedEndTree, shifts, operates_signed, index_tokens, select_tokens, braced_tokens, end_tokens, bracket_tokens, name_end_tokens, signed_end_tokens, Tree, spell, Trees, spell_all}
use Rattle.ver_parse.proofs.Made.{Makes, Tells, if_so, only_so, is_sign, unary_is, binary_is, signed_is}

-- ---- operands

with_index : Named → ℕ → Option ℕ → NamedAtom
with_index n high None = (atom.bit_select n.0 high, (n.1, tt))
with_index n high (Some low) = (atom.part_select n.0 high low, (n.1, tt))

index_spelled : (n : Named) (high : ℕ) (o : Option ℕ) (rest : List VToken) → atom_tokens (with_index n high o).0 ++ rest ≡ word n.0 ∷ sign 91 ∷ number high ∷ index_tokens o rest
unfolding with_index
index_spelled n high None rest = refl
index_spelled n high (Some low) rest = refl

with_select : Named → SelectTree → NamedAtom
with_select n unselected = (atom.net n.0, (n.1, tt))
with_select n (selected high o) = with_index n high o

select_spelled : (n : Named) (x : SelectTree) (rest : List VToken) → atom_tokens (with_select n x).0 ++ rest ≡ word n.0 ∷ select_tokens x rest
unfolding with_select
select_spelled n unselected rest = refl
select_spelled n (selected high o) rest = index_spelled n high o rest

in_braces : BracedTree → NamedAtom
in_braces (repeats n a) = (atom.repeat n a.0, a.1)
in_braces (joins a more) = (atom.concat a.0 more.0, all_append IsName _ _ a.1 more.1)

braces_spelled : (x : BracedTree) (rest : List VToken) → atom_tokens (in_braces x).0 ++ rest ≡ sign 123 ∷ braced_tokens x rest
unfolding in_braces
braces_spelled (repeats n a) rest = ap (λ l. sign 123 ∷ number n ∷ sign 123 ∷ l) (append_assoc (atom_tokens a.0) (sign 125 ∷ sign 125 ∷ []) rest)
braces_spelled (joins a more) rest =
    ap (λ l. sign 123 ∷ l)
    (append_assoc (atom_tokens a.0 ++ next_atom_tokens more.0) (sign 125 ∷ []) rest ∙ append_assoc (atom_tokens a.0) (next_atom_tokens more.0) (sign 125 ∷ rest))

-- an operand, and others behind it, that make a tree in the place of a symbol
record Behind (s : Symbol) (ss : List Symbol) : Type 0 where
  build : NamedAtom → Trees ss → Tree s
  spelled : (a : NamedAtom) (x : Trees ss) (rest : List VToken) → spell s (build a x) rest ≡ atom_tokens a.0 ++ spell_all ss x rest

tells_atom : (s : Symbol) (t : VToken) (ss : List Symbol) → Behind s ss → Tells s t (atom_step t ss)
tells_atom s (word w) ss b =
    only_so s (word w) (is_name w) (a_select ∷ ss)
    (λ h x.
    let n : Named = (w, named w h) in
    record { tree = b.build (with_select n x.0) x.1; token = word w; alike = refl; spelled = λ rest. b.spelled (with_select n x.0) x.1 rest ∙ select_spelled n x.0 (spell_all ss x.1 rest) })
tells_atom s (constant w v) ss b =
    λ x.
    let a : NamedAtom = (atom.constant (counted w) (min v (2 ^ 128)), tt) in
    record { tree = b.build a x; token = constant (counted w) (min v (2 ^ 128)); alike = (refl, refl); spelled = λ rest. b.spelled a x rest }
tells_atom s (sign c) ss b =
    only_so s (sign c) (nat_eq c 123) (braced ∷ ss)
    (λ h x. record { tree = b.build (in_braces x.0) x.1; token = sign 123; alike = is_sign c 123 h; spelled = λ rest. b.spelled (in_braces x.0) x.1 rest ∙ braces_spelled x.0 (spell_all ss x.1 rest) })
tells_atom s digit_zero ss b = tt
tells_atom s (number n) ss b = tt
tells_atom s (double c d) ss b = tt
tells_atom s signed_shift ss b = tt
tells_atom s signed_word ss b = tt
tells_atom s question_digit ss b = tt

alone : Behind an_atom []
alone = record { build = λ a x. a; spelled = λ a x rest. refl }

pub tells_an_atom : (t : VToken) → Tells an_atom t (atom_step t [])
tells_an_atom t = tells_atom an_atom t [] alone

pub tells_select : (t : VToken) → Tells a_select t (select_step t)
tells_select (sign b) =
    if_so a_select (sign b) (nat_eq b 91) (takes (a_number ∷ behind_index ∷ [])) skips
    (λ h x. record { tree = selected x.0 x.1.0; token = sign 91; alike = is_sign b 91 h; spelled = λ rest. refl }) (unselected, λ rest. refl)
tells_select _ = (unselected, λ rest. refl)

pub tells_index : (t : VToken) → Tells behind_index t (index_step t)
tells_index (sign b) =
    if_so behind_index (sign b) (nat_eq b 93) (takes []) _ (λ h x. record { tree = None; token = sign 93; alike = is_sign b 93 h; spelled = λ rest. refl })
    (only_so behind_index (sign b) (nat_eq b 58) (a_number ∷ a_token (sign 93) ∷ []) (λ h x. record { tree = Some x.0; token = sign 58; alike = is_sign b 58 h; spelled = λ rest. refl }))
tells_index _ = tt

joined : Behind braced (more_atoms ∷ [])
joined = record { build = λ a x. joins a x.0; spelled = λ a x rest. refl }

zero_counts : IsAlike (number 0) digit_zero
zero_counts = refl

pub tells_braced : (t : VToken) → Tells braced t (braced_step t)
tells_braced digit_zero = λ x. record { tree = repeats 0 x.1.0; token = number 0; alike = zero_counts; spelled = λ rest. refl }
tells_braced (number n) = λ x. record { tree = repeats (counted n) x.1.0; token = number (counted n); alike = refl; spelled = λ rest. refl }
tells_braced t = tells_atom braced t (more_atoms ∷ []) joined

pub tells_more_atoms : (t : VToken) → Tells more_atoms t (more_atoms_step t)
tells_more_atoms (sign b) =
    if_so more_atoms (sign b) (nat_eq b 44) (takes (an_atom ∷ more_atoms ∷ [])) _
    (λ h x. record {
      tree = (atom.atom_before x.0.0 x.1.0.0, all_append IsName _ _ x.0.1 x.1.0.1);
      token = sign 44;
      alike = is_sign b 44 h;
      spelled = λ rest. ap (λ l. sign 44 ∷ l) (append_assoc (atom_tokens x.0.0) (next_atom_tokens x.1.0.0) (sign 125 ∷ rest));
    })
    (only_so more_atoms (sign b) (nat_eq b 125) [] (λ h x. record { tree = (atom.no_atoms, tt); token = sign 125; alike = is_sign b 125 h; spelled = λ rest. refl }))
tells_more_atoms _ = tt

-- ---- right sides

one_named : (a : NamedAtom) → AreVerilogNames (flat_map atom_names (a.0 ∷ []))
one_named a = all_append IsName (atom_names a.0) [] a.1 tt

two_named : (a b : NamedAtom) → AreVerilogNames (flat_map atom_names (a.0 ∷ b.0 ∷ []))
two_named a b = all_append IsName (atom_names a.0) _ a.1 (one_named b)

side_with : NamedAtom → EndTree → NamedSide
side_with a nothing = (rhs.Atom a.0, one_named a)
side_with a (operates op b) = (rhs.Binary a.0 op b.0, two_named a b)
side_with a (chooses b c) = (rhs.Conditional a.0 b.0 c.0, all_append IsName (atom_names a.0) _ a.1 (two_named b c))

side_spelled : (a : NamedAtom) (e : EndTree) (rest : List VToken) → rhs_tokens (side_with a e).0 ++ rest ≡ atom_tokens a.0 ++ end_tokens e rest
unfolding side_with
side_spelled a nothing rest = refl
side_spelled a (operates op b) rest = append_assoc (atom_tokens a.0) (binary_token op ∷ atom_tokens b.0) rest
side_spelled a (chooses b c) rest =
    append_assoc (atom_tokens a.0 ++ sign 63 ∷ atom_tokens b.0) (sign 58 ∷ atom_tokens c.0) rest
    ∙ append_assoc (atom_tokens a.0) (sign 63 ∷ atom_tokens b.0) (sign 58 ∷ atom_tokens c.0 ++ rest)

sided : Behind other_side (behind_atom ∷ [])
sided = record { build = λ a x. side_with a x.0; spelled = λ a x rest. side_spelled a x.0 rest }

also_sided : Behind a_side (behind_atom ∷ [])
also_sided = record { build = λ a x. side_with a x.0; spelled = λ a x rest. side_spelled a x.0 rest }

with_unary : (s : Symbol) (t : VToken) (o : Option UnaryOp) (u : Step) → ((op : UnaryOp) → o ≡ Some op → Tells s t (takes (an_atom ∷ []))) → Tells s t u → Tells s t (by_unary o u)
with_unary s t (Some op) u p q = p op refl
with_unary s t None u p q = q

unary_tree : UnaryOp → NamedAtom → NamedSide
unary_tree op a = (rhs.Unary op a.0, one_named a)

unary_spelled : (op : UnaryOp) (a : NamedAtom) (rest : List VToken) → rhs_tokens (unary_tree op a).0 ++ rest ≡ sign (unary_sign op) ∷ atom_tokens a.0 ++ rest
unfolding unary_tree
unary_spelled op a rest = refl

pub tells_other_side : (t : VToken) → Tells other_side t (other_side_step t)
tells_other_side t =
    with_unary other_side t (unary_of t) (atom_step t (behind_atom ∷ []))
    (λ op e x. record { tree = unary_tree op x.0; token = sign (unary_sign op); alike = unary_is t op e; spelled = unary_spelled op x.0 }) (tells_atom other_side t (behind_atom ∷ []) sided)

also_other_side : (t : VToken) → Tells a_side t (other_side_step t)
also_other_side t =
    with_unary a_side t (unary_of t) (atom_step t (behind_atom ∷ []))
    (λ op e x. record { tree = unary_tree op x.0; token = sign (unary_sign op); alike = unary_is t op e; spelled = unary_spelled op x.0 }) (tells_atom a_side t (behind_atom ∷ []) also_sided)

bracket_side : Named → BracketTree → NamedSide
bracket_side n (selects high o e) = side_with (with_index n high o) e
bracket_side n (reads_word a) = (rhs.Word n.0 a.0, (n.1, one_named a))

bracket_spelled : (n : Named) (x : BracketTree) (rest : List VToken) → rhs_tokens (bracket_side n x).0 ++ rest ≡ word n.0 ∷ sign 91 ∷ bracket_tokens x rest
unfolding bracket_side
bracket_spelled n (selects high o e) rest = side_spelled (with_index n high o) e rest ∙ index_spelled n high o (end_tokens e rest)
bracket_spelled n (reads_word a) rest = ap (λ l. word n.0 ∷ sign 91 ∷ l) (append_assoc (atom_tokens a.0) (sign 93 ∷ []) rest)

name_side : Named → NameEndTree → NamedSide
name_side n (ends_so e) = side_with (atom.net n.0, (n.1, tt)) e
name_side n (brackets x) = bracket_side n x

name_spelled : (n : Named) (x : NameEndTree) (rest : List VToken) → rhs_tokens (name_side n x).0 ++ rest ≡ word n.0 ∷ name_end_tokens x rest
unfolding name_side
name_spelled n (ends_so e) rest = side_spelled (atom.net n.0, (n.1, tt)) e rest
name_spelled n (brackets x) rest = bracket_spelled n x rest

signed_side : NamedAtom → SignedEndTree → NamedSide
signed_side a (shifts b) = (rhs.SignedShift a.0 b.0, two_named a b)
signed_side a (operates_signed op b) = (rhs.Signed a.0 op b.0, two_named a b)

signed_spelled : (a : NamedAtom) (x : SignedEndTree) (rest : List VToken) → rhs_tokens (signed_side a x).0 ++ rest ≡ signed_word ∷ sign 40 ∷ atom_tokens a.0 ++ sign 41 ∷ signed_end_tokens x rest
unfolding signed_side
signed_spelled a (shifts b) rest =
    ap (λ l. signed_word ∷ sign 40 ∷ l) (ap (λ l. l ++ rest) (append_assoc (atom_tokens a.0) (sign 41 ∷ []) (signed_shift ∷ atom_tokens b.0)) ∙ append_assoc (atom_tokens a.0) (sign 41 ∷ signed_shift ∷ atom_tokens b.0) rest)
signed_spelled a (operates_signed op b) rest =
    let behind : List VToken = binary_token (unsigned_op op) ∷ signed_tokens b.0 in
    ap (λ l. signed_word ∷ sign 40 ∷ l)
    (ap (λ l. l ++ rest) (append_assoc (atom_tokens a.0) (sign 41 ∷ []) behind)
    ∙ append_assoc (atom_tokens a.0) (sign 41 ∷ behind) rest
    ∙ ap (λ l. atom_tokens a.0 ++ sign 41 ∷ binary_token (unsigned_op op) ∷ signed_word ∷ sign 40 ∷ l) (append_assoc (atom_tokens b.0) (sign 41 ∷ []) rest))

pub tells_side : (t : VToken) → Tells a_side t (side_step t)
tells_side (word w) =
    only_so a_side (word w) (is_name w) (behind_side_name ∷ [])
    (λ h x. record { tree = name_side (w, named w h) x.0; token = word w; alike = refl; spelled = name_spelled (w, named w h) x.0 })
tells_side signed_word = λ x. record { tree = signed_side x.1.0 x.1.1.1.0; token = signed_word; alike = refl; spelled = signed_spelled x.1.0 x.1.1.1.0 }
tells_side t = also_other_side t

with_binary : (s : Symbol) (t : VToken) (o : Option BinaryOp) → ((op : BinaryOp) → o ≡ Some op → Tells s t (takes (an_atom ∷ []))) → Tells s t skips → Tells s t (by_binary o)
with_binary s t (Some op) p q = p op refl
with_binary s t None p q = q

alike_binary : (op : BinaryOp) (t : VToken) → binary_token op ≡ t → IsAlike (binary_token op) t
alike_binary op t e = subst (λ u. IsAlike (binary_token op) u) e (binary_self op)

pub tells_behind_atom : (t : VToken) → Tells behind_atom t (behind_atom_step t)
tells_behind_atom t =
    if_so behind_atom t (same_token (sign 63) t) (takes (an_atom ∷ a_token (sign 58) ∷ an_atom ∷ [])) (by_binary (binary_of t))
    (λ h x. record { tree = chooses x.0 x.1.1.0; token = sign 63; alike = sym (same_is (sign 63) t h); spelled = λ rest. refl })
    (with_binary behind_atom t (binary_of t) (λ op e x. record { tree = operates op x.0; token = binary_token op; alike = alike_binary op t (binary_is t op e); spelled = λ rest. refl })
    (nothing, λ rest. refl))

pub tells_side_name : (t : VToken) → Tells behind_side_name t (side_name_step t)
tells_side_name t =
    if_so behind_side_name t (same_token (sign 91) t) (takes (behind_bracket ∷ [])) (behind_atom_step t)
    (λ h x. record { tree = brackets x.0; token = sign 91; alike = sym (same_is (sign 91) t h); spelled = λ rest. refl })
    (if_so behind_side_name t (same_token (sign 63) t) (takes (an_atom ∷ a_token (sign 58) ∷ an_atom ∷ [])) (by_binary (binary_of t))
    (λ h x. record { tree = ends_so (chooses x.0 x.1.1.0); token = sign 63; alike = sym (same_is (sign 63) t h); spelled = λ rest. refl })
    (with_binary behind_side_name t (binary_of t)
    (λ op e x. record { tree = ends_so (operates op x.0); token = binary_token op; alike = alike_binary op t (binary_is t op e); spelled = λ rest. refl }) (ends_so nothing, λ rest. refl)))

word_read : Behind behind_bracket (a_token (sign 93) ∷ [])
word_read = record { build = λ a x. reads_word a; spelled = λ a x rest. refl }

pub tells_bracket : (t : VToken) → Tells behind_bracket t (bracket_step t)
tells_bracket digit_zero = λ x. record { tree = selects 0 x.0 x.1.0; token = number 0; alike = zero_counts; spelled = λ rest. refl }
tells_bracket (number n) = λ x. record { tree = selects (counted n) x.0 x.1.0; token = number (counted n); alike = refl; spelled = λ rest. refl }
tells_bracket t = tells_atom behind_bracket t (a_token (sign 93) ∷ []) word_read

with_signed : (s : Symbol) (t : VToken) (o : Option SignedOp) (ss : List Symbol) → ((op : SignedOp) → o ≡ Some op → Tells s t (takes ss)) → Tells s t (by_signed o ss)
with_signed s t (Some op) ss p = p op refl
with_signed s t None ss p = tt

alike_signed : (t : VToken) (op : SignedOp) → signed_op (binary_of t) ≡ Some op → IsAlike (binary_token (unsigned_op op)) t
alike_signed t op e = alike_binary (unsigned_op op) t (binary_is t (unsigned_op op) (signed_is (binary_of t) op e))

signed_operator : (t : VToken) → Tells behind_signed t (by_signed (signed_op (binary_of t)) (a_token signed_word ∷ a_token (sign 40) ∷ an_atom ∷ a_token (sign 41) ∷ []))
signed_operator t =
    with_signed behind_signed t (signed_op (binary_of t)) (a_token signed_word ∷ a_token (sign 40) ∷ an_atom ∷ a_token (sign 41) ∷ [])
    (λ op e x. record { tree = operates_signed op x.1.1.0; token = binary_token (unsigned_op op); alike = alike_signed t op e; spelled = λ rest. refl })

pub tells_signed : (t : VToken) → Tells behind_signed t (signed_step t)
tells_signed signed_shift = λ x. record { tree = shifts x.0; token = signed_shift; alike = refl; spelled = λ rest. refl }
tells_signed t = signed_operator t

pub tells_operator : (t : VToken) → Tells a_signed_operator t (by_signed (signed_op (binary_of t)) [])
tells_operator t = with_signed a_signed_operator t (signed_op (binary_of t)) [] (λ op e x. record { tree = op; token = binary_token (unsigned_op op); alike = alike_signed t op e; spelled = λ rest. refl })
