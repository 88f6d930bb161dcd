-- What is read in a loop, with one more at the end.
use Rattle.std.proofs.Common.{◌≡◌, ℕ, List, [], ◌∷◌, ◌++◌, flat_map, refl, sym, ap, ◌∙◌, append_assoc, ◌<◌, length, arith}
use Rattle.std.proofs.lemmas.List.{append-nil}
use Rattle.std.proofs.lemmas.List.Concat.{flat_map-append}
use Rattle.std.specs.List.{AllByRecursion}
use Rattle.ver_ast.specs.declared.tree.Port.{Port}
use Rattle.ver_ast.specs.Atoms.{AtomTree, AtomTrees, no_atoms, atom_before, atoms_of}
use Rattle.ver_ast.specs.Grammar.{atom_tokens, next_atom_tokens, port_tokens, next_port_tokens, ports_tokens}
use Rattle.ver_ast.specs.Names.{atom_names, joined_names}
use Rattle.ver_ast.specs.Spells.{AreVerilogNames}
use Rattle.ver_ast.specs.Tokens.{VToken, sign}
use Rattle.ver_words.specs.Names.{IsName}

pub next_atoms_more : (xs : List AtomTree) (a : AtomTree) → next_atom_tokens (atoms_of (xs ++ a ∷ [])) ≡ next_atom_tokens (atoms_of xs) ++ sign 44 ∷ atom_tokens a
next_atoms_more [] a = ap (λ l. sign 44 ∷ l) (append-nil (atom_tokens a))
next_atoms_more (x ∷ xs) a =
    ap (λ l. sign 44 ∷ l) (ap (λ l. atom_tokens x ++ l) (next_atoms_more xs a) ∙ sym (append_assoc (atom_tokens x) (next_atom_tokens (atoms_of xs)) (sign 44 ∷ atom_tokens a)))

pub all_append : {A : Type 0} (P : A → Type 0) (xs ys : List A) → AllByRecursion P xs → AllByRecursion P ys → AllByRecursion P (xs ++ ys)
all_append P [] ys h k = k
all_append P (x ∷ xs) ys (p, h) k = (p, all_append P xs ys h k)

pub joined_names_more : (xs : List AtomTree) (a : AtomTree) → joined_names (atoms_of (xs ++ a ∷ [])) ≡ joined_names (atoms_of xs) ++ atom_names a
joined_names_more [] a = append-nil (atom_names a)
joined_names_more (x ∷ xs) a = ap (λ l. atom_names x ++ l) (joined_names_more xs a) ∙ sym (append_assoc (atom_names x) (joined_names (atoms_of xs)) (atom_names a))

pub one_more : {A B : Type 0} (f : A → List B) (xs : List A) (x : A) → flat_map f (xs ++ x ∷ []) ≡ flat_map f xs ++ f x
one_more f xs x = flat_map-append f xs (x ∷ []) ∙ ap (λ l. flat_map f xs ++ l) (append-nil (f x))

pub ports_more : (ps : List Port) (p : Port) → 0 < length ps → ports_tokens (ps ++ p ∷ []) ≡ ports_tokens ps ++ sign 44 ∷ port_tokens p
ports_more [] p h = absurd (omega arith)
ports_more (q ∷ ps) p h =
    ap (λ l. port_tokens q ++ l) (one_more next_port_tokens ps p) ∙ sym (append_assoc (port_tokens q) (flat_map next_port_tokens ps) (next_port_tokens p))

pub first_port : (p : Port) → ports_tokens (p ∷ []) ≡ port_tokens p
first_port p = append-nil (port_tokens p)

pub some_now : {A : Type 0} (xs ys : List A) (x : A) → ys ≡ xs ++ x ∷ [] → 0 < length ys
some_now [] ys x e = let n = ap length e in omega arith
some_now (y ∷ xs) ys x e = let n = ap length e in omega arith

-- ---- how the tokens of a form are grouped

pub write_split : (a b c d e f g h : VToken) (x y z : List VToken) → (((a ∷ b ∷ x) ++ (c ∷ d ∷ e ∷ y)) ++ (f ∷ g ∷ z)) ++ (h ∷ []) ≡ a ∷ (((b ∷ x) ++ (c ∷ [])) ++ (d ∷ (e ∷ ((y ++ (f ∷ [])) ++ (g ∷ (z ++ (h ∷ [])))))))
write_split a b c d e f g h x y z =
    let last : List VToken = g ∷ (z ++ (h ∷ [])) in
    append_assoc ((a ∷ b ∷ x) ++ (c ∷ d ∷ e ∷ y)) (f ∷ g ∷ z) (h ∷ [])
    ∙ append_assoc (a ∷ b ∷ x) (c ∷ d ∷ e ∷ y) ((f ∷ g ∷ z) ++ (h ∷ []))
    ∙ sym (ap (λ (l : List VToken). a ∷ l) (append_assoc (b ∷ x) (c ∷ []) (d ∷ (e ∷ ((y ++ (f ∷ [])) ++ last))) ∙ ap (λ (l : List VToken). (b ∷ x) ++ (c ∷ (d ∷ (e ∷ l)))) (append_assoc y (f ∷ []) last)))

pub module_split : (a b c d e f : VToken) (x y : List VToken) → ((a ∷ b ∷ c ∷ x) ++ (d ∷ e ∷ y)) ++ (f ∷ []) ≡ a ∷ (b ∷ (c ∷ ((x ++ (d ∷ [])) ++ (e ∷ (y ++ (f ∷ []))))))
module_split a b c d e f x y =
    append_assoc (a ∷ b ∷ c ∷ x) (d ∷ e ∷ y) (f ∷ [])
    ∙ ap (λ (l : List VToken). a ∷ (b ∷ (c ∷ l))) (sym (append_assoc x (d ∷ []) (e ∷ (y ++ (f ∷ [])))))
