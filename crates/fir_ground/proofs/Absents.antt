-- Nodes for the leaves of what is not there.
use Rattle.std.proofs.Common.{◌≡◌, ℕ, zero, suc, ◌+◌, ◌<◌, ◌≤◌, List, [], ◌∷◌, ◌++◌, map, length, get_or, Bool, true, false, Option, Result, refl, sym, ap, ◌∙◌, subst, arith, append_assoc}
use Rattle.std.proofs.lemmas.List.{append-nil, map-append}
use Rattle.std.specs.Prelude.{OnOk}
use Rattle.fir_ast.specs.declared.place.Place.{Place}
use Rattle.fir_ast.specs.Types.{DataType, Fields, no_fields, field, bundle, vector}
use Rattle.fir_meaning.specs.LeafPaths.{Step, named, element}
use Rattle.fir_meaning.specs.TypeKinds.{bare}
use Rattle.fir_meaning.specs.TypeLeaves.{TypeLeaf, element_leaves, field_leaves, leaf_count, type_leaves, under}
use Rattle.fir_type_table.specs.declared.entry.Member.{Member}
use Rattle.fir_type_table.specs.working.Saturated.{saturated}
use Rattle.fir_type_table.specs.working.Tables.{shown, shown_fields, type_at}
use Rattle.fir_type_table.proofs.MemberLists.{members_from, members_next, members_end}
use Rattle.fir_types.proofs.BareTypes.{shown_leaf_count}
use Rattle.fir_leaf.specs.declared.node.Node.{Node}
use Rattle.fir_leaf.specs.declared.node.Node.TheVariants as node
use Rattle.fir_leaf.specs.working.Nodes.{Gives, entries, picks_at}
use Rattle.fir_meaning.specs.working.Terms.{Picks, Term, absent}
use Rattle.fir_ground.specs.working.Absent.{Adds, absent_element_terms, absent_field_terms, absent_leaf, absent_terms}
use Rattle.fir_leaf_pairs.specs.working.TargetNames.{PicksWithin}
use Rattle.fir_leaf_pairs.proofs.Entries.{grows_length, picks_keep, picks_stay}
use Rattle.fir_leaf_pairs.proofs.Giving.{gives_joined, gives_none, gives_one, shows_new}
use Rattle.fir_ground.proofs.ReadTargets.{count_leaves}

-- one leaf
pub adds_leaf : (old new : List Node) (before after : List ℕ) (signed : Bool) (width id : ℕ) (p : Option ℕ) (ps : Picks) → picks_at (entries old) p ≡ ps → id ≡ length old
    → new ≡ old ++ node.Absent signed width p ∷ [] → after ≡ before ++ id ∷ [] → Adds old new before after (absent (record { signed = signed; width = width }) ps ∷ [])
adds_leaf old new before after signed width id p ps picks i made grown = record {
  more = id ∷ [];
  grown = grown;
  gives = gives_one old new id _ (id ∷ []) (shows_new old new (node.Absent signed width p) id _ i made (rw picks refl)) refl;
}

pub adds_none : (old : List Node) (before : List ℕ) → Adds old old before before []
adds_none old before = record { more = []; grown = sym (append-nil before); gives = gives_none old }

adds_then : (old mid new : List Node) (before between after : List ℕ) (ts us : List Term) → Adds old mid before between ts → Adds mid new between after us
    → Adds old new before after (ts ++ us)
adds_then old mid new before between after ts us one two = record {
  more = one.more ++ two.more;
  grown = two.grown ∙ ap (λ l. l ++ two.more) one.grown ∙ append_assoc before one.more two.more;
  gives = gives_joined old mid new one.more two.more ts us one.gives two.gives;
}

pub adds_alone : (old new : List Node) (before ids : List ℕ) (ts : List Term) → before ≡ [] → Adds old new before ids ts → Gives old new ids ts
adds_alone old new before ids ts none adds = rw (adds.grown, none) adds.gives

-- what is left of leaves to come
pub record AddsSoFar (old new : List Node) (before after : List ℕ) (whole left : List Term) : Type 0 where
  pub done : List Term
  pub adds : Adds old new before after done
  pub same : done ++ left ≡ whole

pub adds_begin : (old : List Node) (before : List ℕ) (whole : List Term) → AddsSoFar old old before before whole whole
adds_begin old before whole = record { done = []; adds = adds_none old before; same = refl }

pub adds_next : (old mid new : List Node) (before between after : List ℕ) (whole own left : List Term) → AddsSoFar old mid before between whole (own ++ left) → Adds mid new between after own
    → AddsSoFar old new before after whole left
adds_next old mid new before between after whole own left so_far adds = record {
  done = so_far.done ++ own;
  adds = adds_then old mid new before between after so_far.done own so_far.adds adds;
  same = append_assoc so_far.done own left ∙ so_far.same;
}

pub adds_end : (old new : List Node) (before after : List ℕ) (whole left : List Term) → AddsSoFar old new before after whole left → left ≡ [] → Adds old new before after whole
adds_end old new before after whole left so_far none =
    subst (λ ts. Adds old new before after ts) (sym (append-nil so_far.done) ∙ ap (λ ts. so_far.done ++ ts) (sym none) ∙ so_far.same) so_far.adds

-- the indices stay what they are
pub grown_within : (old now : List Node) (before after : List ℕ) (whole left : List Term) (p : Option ℕ) → AddsSoFar old now before after whole left → PicksWithin (length old) p
    → PicksWithin (length now) p
grown_within old now before after whole left p so_far within = picks_stay (length old) (length now) p (grows_length old now so_far.adds.gives.grows) within

pub grown_picks : (old now : List Node) (before after : List ℕ) (whole left : List Term) (p : Option ℕ) (ps : Picks) → AddsSoFar old now before after whole left → PicksWithin (length old) p
    → picks_at (entries old) p ≡ ps → picks_at (entries now) p ≡ ps
grown_picks old now before after whole left p ps so_far within picks = picks_keep old now p so_far.adds.gives.grows within ∙ picks

-- the step before a leaf tells nothing of it
under_same : (ps : Picks) (flip : Bool) (s : Step) (ls : List TypeLeaf) → map (absent_leaf ps) (map (under flip s) ls) ≡ map (absent_leaf ps) ls
under_same ps flip s [] = refl
under_same ps flip s (l ∷ ls) = ap (λ ts. absent_leaf ps l ∷ ts) (under_same ps flip s ls)

-- field by field
fields_split : (ps : Picks) (is_bare : Bool) (p : Place) (flip : Bool) (x : List ℕ) (begins : Place) (t : DataType) (rest : Fields)
    → absent_field_terms ps (shown_fields is_bare (field p flip x begins t rest)) ≡ absent_terms ps (shown is_bare t) ++ absent_field_terms ps (shown_fields is_bare rest)
fields_split ps is_bare p flip x begins t rest = by is_bare
  where
    by : (b : Bool) → absent_field_terms ps (shown_fields b (field p flip x begins t rest)) ≡ absent_terms ps (shown b t) ++ absent_field_terms ps (shown_fields b rest)
    by true =
        map-append (absent_leaf ps) (map (under flip (named x)) (type_leaves (bare t))) (field_leaves (shown_fields true rest))
        ∙ ap (λ ts. ts ++ absent_field_terms ps (shown_fields true rest)) (under_same ps flip (named x) (type_leaves (bare t)))
    by false =
        map-append (absent_leaf ps) (map (under flip (named x)) (type_leaves t)) (field_leaves rest)
        ∙ ap (λ ts. ts ++ absent_field_terms ps rest) (under_same ps flip (named x) (type_leaves t))

abbrev pub fields_left : List DataType → Bool → Picks → List Member → ℕ → List Term
fields_left ts is_bare ps ms i = absent_field_terms ps (shown_fields is_bare (members_from ts ms i))

pub fields_next : (ts : List DataType) (is_bare : Bool) (ps : Picks) (ms : List Member) (i : ℕ) (m : Member) → i < length ms → m ≡ get_or ms i m
    → fields_left ts is_bare ps ms i ≡ absent_terms ps (shown is_bare (type_at ts m.ty.number)) ++ fields_left ts is_bare ps ms (i + 1)
fields_next ts is_bare ps ms i m within at =
    ap (λ fs. absent_field_terms ps (shown_fields is_bare fs)) (members_next ts ms i m within at)
    ∙ fields_split ps is_bare m.place m.flip m.name m.type_place (type_at ts m.ty.number) (members_from ts ms (i + 1))

pub fields_end : (ts : List DataType) (is_bare : Bool) (ps : Picks) (ms : List Member) (i : ℕ) → length ms ≤ i → fields_left ts is_bare ps ms i ≡ []
fields_end ts is_bare ps ms i past = ap (λ fs. absent_field_terms ps (shown_fields is_bare fs)) (members_end ts ms i past) ∙ by is_bare
  where
    by : (b : Bool) → absent_field_terms ps (shown_fields b no_fields) ≡ []
    by true = refl
    by false = refl

-- element by element
elements_same : (ps : Picks) (i j n : ℕ) (ls : List TypeLeaf) → map (absent_leaf ps) (element_leaves i n ls) ≡ map (absent_leaf ps) (element_leaves j n ls)
elements_same ps i j zero ls = refl
elements_same ps i j (suc n) ls =
    map-append (absent_leaf ps) (map (under false (element i)) ls) (element_leaves (i + 1) n ls)
    ∙ ap (λ ts. ts ++ map (absent_leaf ps) (element_leaves (i + 1) n ls)) (under_same ps false (element i) ls ∙ sym (under_same ps false (element j) ls))
    ∙ ap (λ ts. map (absent_leaf ps) (map (under false (element j)) ls) ++ ts) (elements_same ps (i + 1) (j + 1) n ls)
    ∙ sym (map-append (absent_leaf ps) (map (under false (element j)) ls) (element_leaves (j + 1) n ls))

pub elements_next : (ps : Picks) (n k : ℕ) (t : DataType) → suc k ≡ n → absent_element_terms ps n t ≡ absent_terms ps t ++ absent_element_terms ps k t
elements_next ps n k t e =
    ap (λ m. absent_element_terms ps m t) (sym e)
    ∙ map-append (absent_leaf ps) (map (under false (element 0)) (type_leaves t)) (element_leaves (0 + 1) k (type_leaves t))
    ∙ ap (λ ts. ts ++ map (absent_leaf ps) (element_leaves (0 + 1) k (type_leaves t))) (under_same ps false (element 0) (type_leaves t))
    ∙ ap (λ ts. absent_terms ps t ++ ts) (elements_same ps (0 + 1) 0 k (type_leaves t))

-- where an element has no leaves, all have none
nothing_in : (t : DataType) → leaf_count t ≡ 0 → type_leaves t ≡ []
nothing_in t none = by (type_leaves t) (count_leaves t ∙ none)
  where
    by : (ls : List TypeLeaf) → length ls ≡ 0 → ls ≡ []
    by [] e = refl
    by (l ∷ ls) e = absurd (omega arith)

nothing_many : (i n : ℕ) → element_leaves i n [] ≡ []
nothing_many i zero = refl
nothing_many i (suc n) = nothing_many (i + 1) n

pub no_elements : (ps : Picks) (n : ℕ) (is_bare : Bool) (t : DataType) → saturated (leaf_count t) ≡ 0 → absent_element_terms ps n (shown is_bare t) ≡ []
no_elements ps n is_bare t none =
    let empty : leaf_count (shown is_bare t) ≡ 0 = shown_leaf_count is_bare t ∙ (omega arith) in
    ap (λ ls. map (absent_leaf ps) (element_leaves 0 n ls)) (nothing_in (shown is_bare t) empty) ∙ ap (map (absent_leaf ps)) (nothing_many 0 n)

-- of a bundle its fields, and of a vector its elements
pub bundle_terms : (ps : Picks) (is_bare : Bool) (t : DataType) (fs : Fields) → t ≡ bundle fs → absent_field_terms ps (shown_fields is_bare fs) ≡ absent_terms ps (shown is_bare t)
bundle_terms ps true t fs is = rw is refl
bundle_terms ps false t fs is = rw is refl

pub vector_terms : (ps : Picks) (is_bare : Bool) (t e : DataType) (n : ℕ) → t ≡ vector e n → absent_element_terms ps n (shown is_bare e) ≡ absent_terms ps (shown is_bare t)
vector_terms ps true t e n is = rw is refl
vector_terms ps false t e n is = rw is refl

pub adds_same : {E : Type 0} (result : Result (Unit {0}) E) (old new : List Node) (before after : List ℕ) (ts us : List Term) → ts ≡ us → OnOk result (Adds old new before after ts)
    → OnOk result (Adds old new before after us)
adds_same result old new before after ts us e h = subst (λ l. OnOk result (Adds old new before after l)) e h
