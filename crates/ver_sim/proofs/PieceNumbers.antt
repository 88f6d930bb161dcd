-- Pieces, one more.
use Rattle.std.proofs.Common.{◌≡◌, ℕ, ◌+◌, ◌*◌, ◌%◌, ◌^◌, ◌<◌, List, [], length, drop, get_or, refl, sym, ap, ◌∙◌}
use Rattle.std.proofs.lemmas.List.{at_drop_more}
use Rattle.ver_sim.specs.declared.piece.Piece.{Piece}
use Rattle.ver_sim.specs.working.Pieces.{piece_width, piece_number, pieces_number}

pub pieces_next : (values : List ℕ) (ps : List Piece) (i : ℕ) (d : Piece) (w x now new start : ℕ) → i < length ps
    → pieces_number values (drop i ps) now ≡ start → w ≡ piece_width (get_or ps i d) → x ≡ piece_number values (get_or ps i d)
    → new ≡ (now * 2 ^ w + x) % 2 ^ 128 → pieces_number values (drop (i + 1) ps) new ≡ start
unfolding pieces_number
pieces_next values ps i d w x now new start lt h e f n =
    let is : new ≡ (now * 2 ^ piece_width (get_or ps i d) + piece_number values (get_or ps i d)) % 2 ^ 128 =
    n ∙ ap (λ (u : ℕ). (now * 2 ^ u + x) % 2 ^ 128) e ∙ ap (λ (y : ℕ). (now * 2 ^ piece_width (get_or ps i d) + y) % 2 ^ 128) f in
    ap (pieces_number values (drop (i + 1) ps)) is ∙ sym (at_drop_more (λ l. pieces_number values l now) ps i d lt) ∙ h

pub pieces_none : (values : List ℕ) (now : ℕ) → pieces_number values [] now ≡ now
unfolding pieces_number
pieces_none values now = refl
