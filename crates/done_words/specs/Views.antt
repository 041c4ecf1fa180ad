-- What a seat knows, and how each step changes it.
use Rattle.std.specs.Prelude.{◌≡◌, ℕ, suc, ℤ, Bool, cond, List, [], ◌∷◌, ◌++◌, length, Option, Some}
use Rattle.std.proofs.Common.{leb}
use Rattle.wave_base.specs.declared.types.Cell.{Cell}
use Rattle.core_law.specs.Numbers.{instance_at}
use Rattle.core_law.specs.Sequential.{kept}
use Rattle.core_law.specs.Scripts.{Action, look, read, write, finish, script, next}
use Rattle.core_law.specs.Standing.{finished}
use Rattle.core_machine.specs.declared.work.Work.{Work}
use Rattle.core_machine.specs.FitWork.{plain}
use Rattle.done_words.specs.declared.view.Doing.{Doing}
use Rattle.done_words.specs.declared.view.View.{View}
use Rattle.done_words.specs.declared.view.View.TheVariants.{Spent, Main, Worker}

-- Main's view at the start, and the view of a worker at the start of its script.

abbrev pub leading : Work → View
leading w = Main (record { work = w; made = 0; joined = [] })

abbrev pub begun : Work → ℕ → View
begun w k = Worker (record { work = w; worker = k; place = 0; registers = []; misses = 0; last_miss = record { 0 = 0; 1 = 0; 2 = 0 } })

-- A split makes the next worker, and a join takes one back.

abbrev pub one_more : View → View
one_more (Main m) = Main (record m { made = suc m.made })
one_more v = v

abbrev pub made_next : View → View
made_next (Main m) = begun m.work m.made
made_next v = v

abbrev pub taken_back : View → View → View
taken_back (Main m) (Worker d) = Main (record m { joined = d.worker ∷ m.joined })
taken_back v u = v

-- The next action of a worker, and its view after that action.

abbrev pub next_of : Doing → Option Action
next_of d = next (plain d.work) d.worker d.place

-- a look at the worker f that finds the count n passes where n is enough; else it is one miss more, and the last one
abbrev pub passed : Doing → View
passed d = Worker (record d { place = suc d.place })

abbrev pub missed : Doing → ℕ → ℕ → ℕ → View
missed d f n need = Worker (record d { misses = suc d.misses; last_miss = record { 0 = f; 1 = n; 2 = need } })

abbrev pub look_by : Doing → ℕ → ℕ → Option Action → View
look_by d f n (Some (look g need)) = cond (leb need n) (passed d) (missed d f n need)
look_by d f n a = Worker d

abbrev pub after_look : View → ℕ → ℕ → View
after_look (Worker d) f n = look_by d f n (next_of d)
after_look v f n = v

-- a read keeps what it finds in a register, and the first action of a row keeps no earlier ones
abbrev pub read_by : Doing → ℤ → Option Action → View
read_by d n (Some (read begins g cell)) = Worker (record d { place = suc d.place; registers = kept begins d.registers ++ n ∷ [] })
read_by d n a = Worker d

abbrev pub after_read : View → ℤ → View
after_read (Worker d) n = read_by d n (next_of d)
after_read v n = v

abbrev pub write_by : Doing → Option Action → View
write_by d (Some (write begins g cell)) = Worker (record d { place = suc d.place; registers = kept begins d.registers })
write_by d a = Worker d

abbrev pub after_write : View → View
after_write (Worker d) = write_by d (next_of d)
after_write v = v

abbrev pub after_finish : View → View
after_finish (Worker d) = Worker (record d { place = suc d.place; registers = [] })
after_finish v = v

-- What the next action is. No view but a worker's has one.

abbrev pub Looks : View → ℕ → Type 0
Looks (Worker d) f = (need : ℕ) × (next_of d ≡ Some (look f need))
Looks v f = ⊥

abbrev pub Reads : View → Cell → Type 0
Reads (Worker d) cell = (begins : Bool) × (g : ℕ) × (next_of d ≡ Some (read begins g cell))
Reads v cell = ⊥

-- a write, and the value that its instance has over what its row has read
abbrev pub Writes : View → Cell → ℤ → Type 0
Writes (Worker d) cell value =
    (begins : Bool) × (g : ℕ) × (next_of d ≡ Some (write begins g cell)) × (value ≡ (instance_at (plain d.work) g).value (kept begins d.registers))
Writes v cell value = ⊥

abbrev pub Finishes : View → Type 0
Finishes (Worker d) = next_of d ≡ Some finish
Finishes v = ⊥

abbrev pub IsAtEnd : View → Type 0
IsAtEnd (Worker d) = d.place ≡ length (script (plain d.work) d.worker)
IsAtEnd v = ⊥

-- What a view has, and 0 where it has none.

abbrev pub number_of : View → ℕ
number_of (Worker d) = suc d.worker
number_of v = 0

abbrev pub tasks_done : View → ℕ
tasks_done (Worker d) = finished (plain d.work) d.worker d.place
tasks_done v = 0

abbrev pub leads : View → ℕ
leads (Main m) = 1
leads v = 0

abbrev pub made_of : View → ℕ
made_of (Main m) = m.made
made_of v = 0

abbrev pub joined_of : View → List ℕ
joined_of (Main m) = m.joined
joined_of v = []

abbrev pub place_of : View → ℕ
place_of (Worker d) = d.place
place_of v = 0

abbrev pub registers_of : View → List ℤ
registers_of (Worker d) = d.registers
registers_of v = []

abbrev pub misses_of : View → ℕ
misses_of (Worker d) = d.misses
misses_of v = 0

abbrev pub IsAbout : Work → View → Type 0
IsAbout w Spent = ⊥
IsAbout w (Main m) = m.work ≡ w
IsAbout w (Worker d) = d.work ≡ w
