-- Books and instances that go on.
use Rattle.std.proofs.Common.{◌≡◌, ℕ, zero, suc, List, [], ◌∷◌, ◌++◌, length, get_or, refl, sym, ap, ◌∙◌, append_assoc, arith}
use Rattle.std.proofs.lemmas.List.{append-nil}
use Rattle.core_book.specs.declared.book.Book.{Book}
use Rattle.core_book.specs.declared.book.How.{How}
use Rattle.core_unroll.specs.declared.unrolling.Unrolling.{Unrolling}
use Rattle.core_unroll.specs.Advances.{Grows, Extends}

-- what comes after what came after
pub went_on : {A : Type 0} (xs ys zs : List A) → ((more : List A) × (ys ≡ xs ++ more)) → ((more : List A) × (zs ≡ ys ++ more)) → (more : List A) × (zs ≡ xs ++ more)
went_on xs ys zs m n = (m.0 ++ n.0, n.1 ∙ (ap (λ (l : List _). l ++ n.0) m.1 ∙ append_assoc xs m.0 n.0))

pub stayed : {A : Type 0} (xs : List A) → (more : List A) × (xs ≡ xs ++ more)
stayed xs = ([], sym (append-nil xs))

pub grows_same : (book : Book) → Grows book book
grows_same book = record { statements = stayed book.statements.items; others = stayed book.others.items; written = refl }

pub grows_more : (a b c : Book) → Grows a b → Grows b c → Grows a c
grows_more a b c g h = record {
  statements = went_on a.statements.items b.statements.items c.statements.items g.statements h.statements;
  others = went_on a.others.items b.others.items c.others.items g.others h.others;
  written = h.written ∙ g.written;
}

pub extends_same : (u : Unrolling) → Extends u u.book u.hows.items
extends_same u = record { grows = grows_same u.book; instances = stayed u.hows.items }

pub extends_more : (u v : Unrolling) (book : Book) (hows : List How) → Extends u v.book v.hows.items → Extends v book hows → Extends u book hows
extends_more u v book hows e f = record {
  grows = grows_more u.book v.book book e.grows f.grows;
  instances = went_on u.hows.items v.hows.items hows e.instances f.instances;
}

-- the element after these
pub after_these : {A : Type 0} (xs : List A) (y : A) (zs : List A) (d : A) (p : ℕ) → p ≡ length xs → get_or ((xs ++ y ∷ []) ++ zs) p d ≡ y
after_these [] y zs d zero e = refl
after_these [] y zs d (suc p) e = absurd (omega arith)
after_these (x ∷ xs) y zs d zero e = absurd (omega arith)
after_these (x ∷ xs) y zs d (suc p) e = after_these xs y zs d p (omega arith)

pub long_push : {A : Type 0} (xs : List A) (y : A) → length (xs ++ y ∷ []) ≡ suc (length xs)
long_push [] y = refl
long_push (x ∷ xs) y = ap suc (long_push xs y)
