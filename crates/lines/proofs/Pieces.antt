-- Laws of a text in pieces. In order: one byte more; joining undoes parting, and parting undoes joining where no piece has
-- the separating byte; the length of joined pieces; an empty last piece.
use Prim.Native.Nat.{◌*◌, ◌+◌, ◌≤◌, suc, ℕ}
use Rattle.lines.proofs.Bools.{and_l, and_r, bool_case}
use Rattle.lines.specs.Lines.{all, joined, pieces_from, without_empty_last}
use borrow.Author.Tests.{eq-eqb, eqb-true, not-true}
use lib.Dec.{eqb}
use lib.ListN.{length, length-append}
use mathlib.Core.Bool.{Bool, false, not, true}
use mathlib.Core.List.{List, [], ◌++◌, ◌∷◌, append_assoc, append-nil}
use mathlib.Core.Path.{◌∙◌, ◌≡◌, ap, refl, sym}
use native.Mathlib.Nat.{mul-suc}
use native.Mathlib.Omega.{arith}

-- ---- one byte more

pub pieces_sep : (sep : ℕ) (p bs : List ℕ) (b : ℕ) → eqb b sep ≡ true → pieces_from sep p (b ∷ bs) ≡ p ∷ pieces_from sep [] bs
unfolding pieces_from
pieces_sep sep p bs b e = rw (e, pieces_from)

pub pieces_byte : (sep : ℕ) (p bs : List ℕ) (b : ℕ) → eqb b sep ≡ false → pieces_from sep p (b ∷ bs) ≡ pieces_from sep (p ++ b ∷ []) bs
unfolding pieces_from
pieces_byte sep p bs b e = rw (e, pieces_from)

-- ---- joining and parting

joined_cons : (sep : ℕ) (p q bs : List ℕ) → joined sep (p ∷ pieces_from sep q bs) ≡ p ++ sep ∷ joined sep (pieces_from sep q bs)
unfolding joined pieces_from
joined_cons sep p q [] = refl
joined_cons sep p q (b ∷ bs) =
    bool_case (eqb b sep)
    (λ e. rw (pieces_sep sep q bs b e))
    (λ e. rw (pieces_byte sep q bs b e) (joined_cons sep p (q ++ b ∷ []) bs))

pub joined-pieces : (sep : ℕ) (p bs : List ℕ) → joined sep (pieces_from sep p bs) ≡ p ++ bs
unfolding joined pieces_from
joined-pieces sep p [] = sym (append-nil p)
joined-pieces sep p (b ∷ bs) =
    bool_case (eqb b sep)
    (λ e.
    ap (joined sep) (pieces_sep sep p bs b e)
    ∙ joined_cons sep p [] bs
    ∙ ap (λ (t : List ℕ). p ++ sep ∷ t) (joined-pieces sep [] bs)
    ∙ ap (λ (k : ℕ). p ++ k ∷ bs) (sym (eqb-true b sep e)))
    (λ e. ap (joined sep) (pieces_byte sep p bs b e) ∙ joined-pieces sep (p ++ b ∷ []) bs ∙ append_assoc p (b ∷ []) bs)

-- no byte of p is the separating one
abbrev pub lacks : ℕ → List ℕ → Bool
lacks sep p = all (λ b. not (eqb b sep)) p

pub pieces_lacking : (sep : ℕ) (p q bs : List ℕ) → lacks sep q ≡ true → pieces_from sep p (q ++ bs) ≡ pieces_from sep (p ++ q) bs
unfolding all
pieces_lacking sep p [] bs e = rw (append-nil p)
pieces_lacking sep p (b ∷ q) bs e =
    pieces_byte sep p (q ++ bs) b (not-true (eqb b sep) (and_l (not (eqb b sep)) (lacks sep q) e))
    ∙ pieces_lacking sep (p ++ b ∷ []) q bs (and_r (not (eqb b sep)) (lacks sep q) e)
    ∙ ap (λ (t : List ℕ). pieces_from sep t bs) (append_assoc p (b ∷ []) q)

pub pieces-joined : (sep : ℕ) (p : List ℕ) (ps : List (List ℕ)) → all (lacks sep) (p ∷ ps) ≡ true → pieces_from sep [] (joined sep (p ∷ ps)) ≡ p ∷ ps
unfolding all joined pieces_from
pieces-joined sep p [] e = ap (pieces_from sep []) (sym (append-nil p)) ∙ pieces_lacking sep [] p [] (and_l (lacks sep p) true e)
pieces-joined sep p (q ∷ ps) e =
    pieces_lacking sep [] p (sep ∷ joined sep (q ∷ ps)) (and_l (lacks sep p) (all (lacks sep) (q ∷ ps)) e)
    ∙ pieces_sep sep p (joined sep (q ∷ ps)) sep (eq-eqb sep sep refl)
    ∙ ap (λ (t : List (List ℕ)). p ∷ t) (pieces-joined sep q ps (and_r (lacks sep p) (all (lacks sep) (q ∷ ps)) e))

-- ---- the length of joined pieces

-- pieces of at most k bytes, each with the byte that parts it from the next
pub length-joined : (sep k : ℕ) (fits : List ℕ → Bool) → ((p : List ℕ) → fits p ≡ true → length p ≤ k)
    → (p : List ℕ) (ps : List (List ℕ)) → all fits (p ∷ ps) ≡ true → suc (length (joined sep (p ∷ ps))) ≤ suc k * length (p ∷ ps)
unfolding all joined
length-joined sep k fits short p [] e = omega (arith, short p (and_l (fits p) true e))
length-joined sep k fits short p (q ∷ ps) e =
    let rest : suc (length (joined sep (q ∷ ps))) ≤ suc k * length (q ∷ ps) = length-joined sep k fits short q ps (and_r (fits p) (all fits (q ∷ ps)) e) in
    let first : length p ≤ k = short p (and_l (fits p) (all fits (q ∷ ps)) e) in
    let many : suc k * suc (length (q ∷ ps)) ≡ suc k * length (q ∷ ps) + suc k = mul-suc (suc k) (length (q ∷ ps)) in
    rw (many, length-append p (sep ∷ joined sep (q ∷ ps))) (omega arith)

-- ---- an empty last piece

pub keeps_first : (sep : ℕ) (p q bs : List ℕ) → without_empty_last (p ∷ pieces_from sep q bs) ≡ p ∷ without_empty_last (pieces_from sep q bs)
unfolding pieces_from without_empty_last
keeps_first sep p q [] = refl
keeps_first sep p q (b ∷ bs) =
    bool_case (eqb b sep)
    (λ e. rw (pieces_sep sep q bs b e))
    (λ e. rw (pieces_byte sep q bs b e) (keeps_first sep p (q ++ b ∷ []) bs))
