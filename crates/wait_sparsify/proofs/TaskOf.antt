-- The task of each row.
use Rattle.std.proofs.Common.{◌≡◌, ℕ, suc, zero, ◌+◌, ◌<◌, ◌∙◌, List, [], ◌∷◌, length, get_or, arith, refl}
use Rattle.wave_base.specs.declared.types.RowId.{RowId}
use Rattle.row_graph.specs.Rows.{row}
use Rattle.row_graph.proofs.Members.{In}
use Rattle.wait_sparsify.specs.Written.{written, written_lists}
use Rattle.wait_sparsify.proofs.Stamping.{length-written, written-in, written-out}

-- no row is in two lists
abbrev pub AreApart : List (List RowId) → Type 0
AreApart lists = (a b u : ℕ) → In (row u) (get_or lists a []) → In (row u) (get_or lists b []) → a ≡ b

pub length-written_lists : (number : ℕ) (lists : List (List RowId)) (numbers : List ℕ) → length (written_lists number lists numbers) ≡ length numbers
length-written_lists number [] numbers = refl
length-written_lists number (rows ∷ lists) numbers =
    length-written_lists (number + 1) lists (written number rows numbers) ∙ length-written number rows numbers

lists-out : (number : ℕ) (lists : List (List RowId)) (numbers : List ℕ) (u : ℕ) → ((a : ℕ) → In (row u) (get_or lists a []) → ⊥) → get_or (written_lists number lists numbers) u 0 ≡ get_or numbers u 0
lists-out number [] numbers u lacks = refl
lists-out number (rows ∷ lists) numbers u lacks =
    lists-out (number + 1) lists (written number rows numbers) u (λ a. lacks (suc a)) ∙ written-out number rows numbers u (lacks zero)

pub task_of_row : (number : ℕ) (lists : List (List RowId)) (numbers : List ℕ) (a u : ℕ) → AreApart lists → u < length numbers → In (row u) (get_or lists a []) → get_or (written_lists number lists numbers) u 0 ≡ number + a
task_of_row number [] numbers a u apart l h = absurd h
task_of_row number (rows ∷ lists) numbers zero u apart l h =
    let lacks : (a : ℕ) → In (row u) (get_or lists a []) → ⊥ = λ a i. (let e = apart zero (suc a) u h i in omega (arith, e)) in
    let s : number ≡ number + zero = omega arith in
    lists-out (number + 1) lists (written number rows numbers) u lacks ∙ written-in number rows numbers u l h ∙ s
task_of_row number (rows ∷ lists) numbers (suc a) u apart l h =
    let m : u < length (written number rows numbers) = omega (arith, length-written number rows numbers, l) in
    let r = task_of_row (number + 1) lists (written number rows numbers) a u (λ a b u x y. (let e = apart (suc a) (suc b) u x y in omega (arith, e))) m h in
    let s : number + 1 + a ≡ number + suc a = omega arith in
    r ∙ s
