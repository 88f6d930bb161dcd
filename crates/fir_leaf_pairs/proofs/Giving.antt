-- Nodes for the leaves of an expression, one after another.
use Rattle.std.proofs.Common.{◌≡◌, ℕ, zero, suc, ◌+◌, ◌<◌, ◌≤◌, min, List, [], ◌∷◌, ◌++◌, length, get_or, take, refl, ap, ◌∙◌, arith, map}
use Rattle.std.proofs.lemmas.List.{map-append}
use Rattle.fir_leaf.specs.declared.node.Node.{Node}
use Rattle.fir_leaf.specs.declared.node.Node.TheVariants as node
use Rattle.fir_meaning.specs.working.Terms.{Term}
use Rattle.fir_meaning.specs.working.Terms as over
use Rattle.fir_meaning.specs.working.Leafed.{first_term, muxes}
use Rattle.fir_leaf.specs.working.Nodes.{AllBelow, Gives, Grows, Shows, entries, entry_of, node_term, term_in}
use Rattle.fir_leaf_pairs.proofs.Entries.{keeps, grows_none, grows_on, grows_length, stands_new}

pub term_keeps : (old new : List Node) (id : ℕ) → Grows old new → id < length old → node_term new id ≡ node_term old id
term_keeps old new id g lt = ap term_in (keeps old new id g lt)

pub below_stays : (m n : ℕ) (is : List ℕ) → m ≤ n → AllBelow m is → AllBelow n is
below_stays m n [] le b = tt
below_stays m n (i ∷ is) le b = (omega (arith, b.0), below_stays m n is le b.1)

pub all_keep : (old new : List Node) (ids : List ℕ) → Grows old new → AllBelow (length old) ids → map (node_term new) ids ≡ map (node_term old) ids
all_keep old new [] g b = refl
all_keep old new (i ∷ ids) g b = rw (term_keeps old new i g b.0, all_keep old new ids g b.1) refl

pub below_joined : (n : ℕ) (is js : List ℕ) → AllBelow n is → AllBelow n js → AllBelow n (is ++ js)
below_joined n [] js b d = d
below_joined n (i ∷ is) js b d = (b.0, below_joined n is js b.1 d)

pub gives_none : (old : List Node) → Gives old old [] []
gives_none old = record { grows = grows_none old; within = tt; terms = refl }

pub gives_joined : (old mid new : List Node) (ids more : List ℕ) (ts us : List Term) → Gives old mid ids ts → Gives mid new more us → Gives old new (ids ++ more) (ts ++ us)
gives_joined old mid new ids more ts us g h = record {
  grows = grows_on old mid new g.grows h.grows;
  within = below_joined (length new) ids more (below_stays (length mid) (length new) ids (grows_length mid new h.grows) g.within) h.within;
  terms = map-append (node_term new) ids more ∙ rw (all_keep mid new ids h.grows g.within, g.terms, h.terms) refl;
}

pub gives_one : (old new : List Node) (id : ℕ) (t : Term) (ids : List ℕ) → Shows old new id t → ids ≡ id ∷ [] → Gives old new ids (t ∷ [])
gives_one old new id t ids s e = rw e (record { grows = s.grows; within = (s.within, tt); terms = rw s.term refl })

pub gives_push : (old mid new : List Node) (ids out : List ℕ) (ts : List Term) (id : ℕ) (t : Term) → Gives old mid ids ts → Shows mid new id t → out ≡ ids ++ id ∷ []
    → Gives old new out (ts ++ t ∷ [])
gives_push old mid new ids out ts id t g s o = rw o (gives_joined old mid new ids (id ∷ []) ts (t ∷ []) g (gives_one mid new id t (id ∷ []) s refl))

pub gives_on : (old mid new : List Node) (ids : List ℕ) (ts : List Term) → Grows old mid → Gives mid new ids ts → Gives old new ids ts
gives_on old mid new ids ts g h = record { grows = grows_on old mid new g h.grows; within = h.within; terms = h.terms }

pub shows_on : (old mid new : List Node) (id : ℕ) (t : Term) → Grows old mid → Shows mid new id t → Shows old new id t
shows_on old mid new id t g h = record { grows = grows_on old mid new g h.grows; within = h.within; term = h.term }

-- a new node
pub shows_new : (old new : List Node) (n : Node) (id : ℕ) (t : Term) → id ≡ length old → new ≡ old ++ n ∷ [] → term_in (entry_of (entries old) n) ≡ t → Shows old new id t
shows_new old new n id t i e is = let s = stands_new old new n id e i in record { grows = s.grows; within = s.within; term = ap term_in s.entry ∙ is }

-- where there is no first node, a new one
pub first_none : (old new : List Node) (ids : List ℕ) (id : ℕ) → length ids ≤ 0 → id ≡ length old → new ≡ old ++ node.Zeros ∷ [] → Shows old new id (first_term (map (node_term old) ids))
first_none old new [] id none i e = shows_new old new node.Zeros id over.zeros i e refl
first_none old new (x ∷ ids) id none i e = absurd (omega arith)

pub below_at : (n : ℕ) (is : List ℕ) (k d : ℕ) → AllBelow n is → k < length is → get_or is k d < n
below_at n [] k d b lt = absurd (omega arith)
below_at n (i ∷ is) zero d b lt = b.0
below_at n (i ∷ is) (suc k) d b lt = below_at n is k d b.1 (omega arith)

-- one leaf more of a mux
muxes_more : (c : Term) (f : ℕ → Term) (xs ys : List ℕ) (k d e : ℕ) → k < length xs → k < length ys
    → muxes c (map f (take (k + 1) xs)) (map f (take (k + 1) ys)) ≡ muxes c (map f (take k xs)) (map f (take k ys)) ++ over.mux c (f (get_or xs k d)) (f (get_or ys k e)) ∷ []
muxes_more c f [] ys k d e lt lu = absurd (omega arith)
muxes_more c f (x ∷ xs) [] k d e lt lu = absurd (omega arith)
muxes_more c f (x ∷ xs) (y ∷ ys) zero d e lt lu = refl
muxes_more c f (x ∷ xs) (y ∷ ys) (suc k) d e lt lu =
    let next : suc k + 1 ≡ suc (k + 1) = omega arith in
    rw next (ap (λ l. over.mux c (f x) (f y) ∷ l) (muxes_more c f xs ys k d e (omega arith) (omega arith)))

pub mux_more : (old mid new : List Node) (c id k x y d e : ℕ) (xs ys ids out : List ℕ) → k < length xs → k < length ys → x ≡ get_or xs k d → y ≡ get_or ys k e
    → c < length old → AllBelow (length old) xs → AllBelow (length old) ys
    → Gives old mid ids (muxes (node_term old c) (map (node_term old) (take k xs)) (map (node_term old) (take k ys)))
    → id ≡ length mid → new ≡ mid ++ node.Mux c x y ∷ [] → out ≡ ids ++ id ∷ []
    → Gives old new out (muxes (node_term old c) (map (node_term old) (take (k + 1) xs)) (map (node_term old) (take (k + 1) ys)))
mux_more old mid new c id k x y d e xs ys ids out lx ly is_x is_y lc bx by g i made o =
    let x_below : x < length old = rw is_x (below_at (length old) xs k d bx lx) in
    let y_below : y < length old = rw is_y (below_at (length old) ys k e by ly) in
    rw (muxes_more (node_term old c) (node_term old) xs ys k d e lx ly, ← is_x, ← is_y)
    (gives_push old mid new ids out _ id _ g
    (shows_new mid new (node.Mux c x y) id _ i made (rw (term_keeps old mid c g.grows lc, term_keeps old mid x g.grows x_below, term_keeps old mid y g.grows y_below) refl)) o)

take_none : (k : ℕ) → take {A = ℕ} k [] ≡ []
take_none zero = refl
take_none (suc k) = refl

muxes_none : (c : Term) (ts : List Term) → muxes c ts [] ≡ []
muxes_none c [] = refl
muxes_none c (t ∷ ts) = refl

muxes_all : (c : Term) (f : ℕ → Term) (xs ys : List ℕ) (k : ℕ) → min (length xs) (length ys) ≤ k → muxes c (map f (take k xs)) (map f (take k ys)) ≡ muxes c (map f xs) (map f ys)
muxes_all c f [] ys k le = rw (take_none k) refl
muxes_all c f (x ∷ xs) [] k le = rw (take_none k) (muxes_none c (map f (take k (x ∷ xs))))
muxes_all c f (x ∷ xs) (y ∷ ys) zero le = absurd (omega arith)
muxes_all c f (x ∷ xs) (y ∷ ys) (suc k) le = ap (λ l. over.mux c (f x) (f y) ∷ l) (muxes_all c f xs ys k (omega arith))

pub mux_end : (old new : List Node) (c k : ℕ) (xs ys ids : List ℕ) → k ≡ min (length xs) (length ys)
    → Gives old new ids (muxes (node_term old c) (map (node_term old) (take k xs)) (map (node_term old) (take k ys)))
    → Gives old new ids (muxes (node_term old c) (map (node_term old) xs) (map (node_term old) ys))
mux_end old new c k xs ys ids e g = rw (muxes_all (node_term old c) (node_term old) xs ys k (omega arith)) at g

-- and of a validif
validifs_more : (c : Term) (f : ℕ → Term) (xs : List ℕ) (k d : ℕ) → k < length xs
    → map (over.validif c) (map f (take (k + 1) xs)) ≡ map (over.validif c) (map f (take k xs)) ++ over.validif c (f (get_or xs k d)) ∷ []
validifs_more c f [] k d lt = absurd (omega arith)
validifs_more c f (x ∷ xs) zero d lt = refl
validifs_more c f (x ∷ xs) (suc k) d lt =
    let next : suc k + 1 ≡ suc (k + 1) = omega arith in rw next (ap (λ l. over.validif c (f x) ∷ l) (validifs_more c f xs k d (omega arith)))

pub validif_more : (old mid new : List Node) (c id k x d : ℕ) (xs ids out : List ℕ) → k < length xs → x ≡ get_or xs k d → c < length old → AllBelow (length old) xs
    → Gives old mid ids (map (over.validif (node_term old c)) (map (node_term old) (take k xs)))
    → id ≡ length mid → new ≡ mid ++ node.Validif c x ∷ [] → out ≡ ids ++ id ∷ []
    → Gives old new out (map (over.validif (node_term old c)) (map (node_term old) (take (k + 1) xs)))
validif_more old mid new c id k x d xs ids out lx is_x lc bx g i made o =
    let x_below : x < length old = rw is_x (below_at (length old) xs k d bx lx) in
    rw (validifs_more (node_term old c) (node_term old) xs k d lx, ← is_x)
    (gives_push old mid new ids out _ id _ g
    (shows_new mid new (node.Validif c x) id _ i made (rw (term_keeps old mid c g.grows lc, term_keeps old mid x g.grows x_below) refl)) o)
