-- A first entry that is skipped where a test holds.
use Rattle.std.proofs.Common.{◌≡◌, ◌⊎◌, inl, inr, List, ◌∷◌, Bool, true, false, cond, refl}
use Rattle.row_graph.proofs.Members.{In}

pub skip : {X : Type 0} (b : Bool) (q : X) (qs : List X) (p : X) → In p (cond b qs (q ∷ qs)) → ((b ≡ false) × (q ≡ p)) ⊎ In p qs
skip true q qs p h = inr h
skip false q qs p (inl e) = inl (refl, e)
skip false q qs p (inr h) = inr h

pub skip_first : {X : Type 0} (b : Bool) (q : X) (qs : List X) → b ≡ false → In q (cond b qs (q ∷ qs))
skip_first true q qs e = absurd (cc)
skip_first false q qs e = inl refl

pub skip_rest : {X : Type 0} (b : Bool) (q : X) (qs : List X) (p : X) → In p qs → In p (cond b qs (q ∷ qs))
skip_rest true q qs p h = h
skip_rest false q qs p h = inr h
