-- The places of items are those behind what stands before them.
use Rattle.std.proofs.Common.{◌≡◌, ℕ, zero, suc, ◌+◌, ◌<◌, List, [], ◌∷◌, ◌++◌, length, refl, sym, ap, ◌∙◌, arith}
use Rattle.std.specs.Prelude.{drop, take, flat_map, slice_get, Some}
use Rattle.ver_ast.specs.declared.place.VPlace.{VPlace}
use Rattle.ver_ast.specs.declared.tree.Port.{Port}
use Rattle.ver_ast.specs.declared.tree.Item.{Item}
use Rattle.ver_ast.specs.declared.tree.Verilog.{Verilog}
use Rattle.ver_ast.specs.Tokens.{VToken, sign}
use Rattle.ver_ast.specs.Grammar.{port_tokens, next_port_tokens, ports_tokens, item_tokens}
use Rattle.ver_places.specs.Places.{place_at, places_in, behind, item_places}
use Rattle.ver_places.specs.working.ItemPlaces.{starts_of}
use Rattle.ver_places.specs.ItemPlaces.{item_place}
use Rattle.ver_places.proofs.PlacesBehind.{places_both}

-- behind so many places and so many others
place_behind : (m n : ℕ) (ps : List VPlace) → place_at n (drop m ps) ≡ place_at (m + n) ps
place_behind zero n ps = let same : n ≡ 0 + n = omega arith in ap (λ (k : ℕ). place_at k ps) same
place_behind (suc m) n [] = refl
place_behind (suc m) n (p ∷ ps) = let same : suc (m + n) ≡ suc m + n = omega arith in place_behind m n ps ∙ ap (λ (k : ℕ). place_at k (p ∷ ps)) same

starts_at : (is : List Item) (ps : List VPlace) (k : ℕ) → k < length is
    → slice_get (starts_of is ps) k ≡ Some (place_at (places_in (flat_map item_tokens (take k is))) ps)
starts_at [] ps k h = absurd (omega (arith, h))
starts_at (i ∷ is) ps zero h = refl
starts_at (i ∷ is) ps (suc k) h =
    let rest = places_in (flat_map item_tokens (take k is)) in
    starts_at is (behind (item_tokens i) ps) k (omega (arith, h))
    ∙ ap Some (place_behind (places_in (item_tokens i)) rest ps)
    ∙ ap (λ (n : ℕ). Some (place_at n ps)) (sym (places_both (item_tokens i) (flat_map item_tokens (take k is))))

-- commas have no place
next_ports_places : (ps : List Port) → places_in (flat_map next_port_tokens ps) ≡ places_in (flat_map port_tokens ps)
next_ports_places [] = refl
next_ports_places (p ∷ ps) =
    places_both (port_tokens p) (flat_map next_port_tokens ps) ∙ ap (λ (n : ℕ). places_in (port_tokens p) + n) (next_ports_places ps)
    ∙ sym (places_both (port_tokens p) (flat_map port_tokens ps))

ports_places : (ps : List Port) → places_in (ports_tokens ps) ≡ places_in (flat_map port_tokens ps)
ports_places [] = refl
ports_places (p ∷ ps) =
    places_both (port_tokens p) (flat_map next_port_tokens ps) ∙ ap (λ (n : ℕ). places_in (port_tokens p) + n) (next_ports_places ps)
    ∙ sym (places_both (port_tokens p) (flat_map port_tokens ps))

-- each item's place is that of the tree's token
pub item_starts_at : (v : Verilog) (k : ℕ) → k < length v.items → slice_get (starts_of v.items (item_places v)) k ≡ Some (item_place v k)
item_starts_at v k h =
    starts_at v.items (item_places v) k h
    ∙ ap Some (place_behind ports items (drop 2 v.places) ∙ place_behind 2 (ports + items) v.places)
    ∙ ap (λ (n : ℕ). Some (place_at n v.places)) (two (ports + items))
    ∙ ap (λ (n : ℕ). Some (place_at (suc (suc n)) v.places)) (sym before)
  where
    before_items : List VToken
    before_items = flat_map item_tokens (take k v.items)

    ports : ℕ
    ports = places_in (flat_map port_tokens v.ports)

    items : ℕ
    items = places_in before_items

    two : (n : ℕ) → 2 + n ≡ suc (suc n)
    two n = omega arith

    before : places_in (ports_tokens v.ports ++ sign 41 ∷ sign 59 ∷ before_items) ≡ ports + items
    before = places_both (ports_tokens v.ports) (sign 41 ∷ sign 59 ∷ before_items) ∙ ap (λ (n : ℕ). n + items) (ports_places v.ports)

pub starts_long : (is : List Item) (ps : List VPlace) → length (starts_of is ps) ≡ length is
starts_long [] ps = refl
starts_long (i ∷ is) ps = ap suc (starts_long is (behind (item_tokens i) ps))
