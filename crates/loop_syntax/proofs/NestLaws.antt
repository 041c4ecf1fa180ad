-- The lines of items grow by what is put after them.
use Rattle.std.proofs.Common.{◌≡◌, ℕ, zero, suc, ◌+◌, List, [], ◌∷◌, ◌++◌, length, Some, refl, sym, ap, ◌∙◌, append_assoc, length-append, arith}
use Rattle.std.proofs.lemmas.List.{append-nil}
use Rattle.loop_core.specs.declared.nest.Item.{Item}
use Rattle.loop_lines.specs.declared.line.Line.TheVariants as lines
use Rattle.loop_syntax.specs.declared.items.OpenBlock.{OpenBlock}
use Rattle.loop_syntax.specs.Nesting.{Mark, Opens, Ends, item_marks, marks, open_marks, so_far}
use Rattle.loop_syntax.specs.Stages.{Within, stage_within}

pub marks_more : (items : List Item) (item : Item) → marks (items ++ item ∷ []) ≡ marks items ++ item_marks item
marks_more [] item = append-nil (item_marks item)
marks_more (i ∷ items) item = ap (λ (l : List Mark). item_marks i ++ l) (marks_more items item) ∙ sym (append_assoc (item_marks i) (marks items) (item_marks item))

open_more : (os : List OpenBlock) (o : OpenBlock) → open_marks (os ++ o ∷ []) ≡ open_marks os ++ (marks o.before ++ Opens o.line o.head ∷ [])
open_more [] o = refl
open_more (p ∷ os) o =
    ap (λ (l : List Mark). marks p.before ++ Opens p.line p.head ∷ l) (open_more os o) ∙ sym (append_assoc (marks p.before) (Opens p.line p.head ∷ open_marks os) (marks o.before ++ Opens o.line o.head ∷ []))

-- a block begins
pub opened : (os news : List OpenBlock) (o : OpenBlock) → news ≡ os ++ o ∷ [] → so_far news [] ≡ so_far os o.before ++ Opens o.line o.head ∷ []
opened os news o is =
    append-nil (open_marks news) ∙ ap open_marks is ∙ open_more os o ∙ sym (append_assoc (open_marks os) (marks o.before) (Opens o.line o.head ∷ []))

-- a block ends
pub closed : (os olds : List OpenBlock) (o : OpenBlock) (body items : List Item) → olds ≡ os ++ o ∷ [] → marks items ≡ marks o.before ++ Opens o.line o.head ∷ (marks body ++ Ends ∷ []) → so_far os items ≡ so_far olds body ++ Ends ∷ []
closed os olds o body items is grown =
    let head = Opens o.line o.head in
    let left : so_far os items ≡ open_marks os ++ (marks o.before ++ head ∷ (marks body ++ Ends ∷ [])) = ap (λ (l : List Mark). open_marks os ++ l) grown in
    let one : open_marks olds ≡ open_marks os ++ (marks o.before ++ head ∷ []) = ap open_marks is ∙ open_more os o in
    let two : so_far olds body ++ Ends ∷ [] ≡ open_marks olds ++ (marks body ++ Ends ∷ []) = append_assoc (open_marks olds) (marks body) (Ends ∷ []) in
    let three : (open_marks os ++ (marks o.before ++ head ∷ [])) ++ (marks body ++ Ends ∷ []) ≡ open_marks os ++ ((marks o.before ++ head ∷ []) ++ (marks body ++ Ends ∷ [])) = append_assoc (open_marks os) (marks o.before ++ head ∷ []) (marks body ++ Ends ∷ []) in
    let four : (marks o.before ++ head ∷ []) ++ (marks body ++ Ends ∷ []) ≡ marks o.before ++ head ∷ (marks body ++ Ends ∷ []) = append_assoc (marks o.before) (head ∷ []) (marks body ++ Ends ∷ []) in
    left ∙ sym (two ∙ ap (λ (l : List Mark). l ++ (marks body ++ Ends ∷ [])) one ∙ three ∙ ap (λ (l : List Mark). open_marks os ++ l) four)

-- a statement comes
pub stated : (os : List OpenBlock) (before items : List Item) (m : Mark) → marks items ≡ marks before ++ m ∷ [] → so_far os items ≡ so_far os before ++ m ∷ []
stated os before items m grown = ap (λ (l : List Mark). open_marks os ++ l) grown ∙ sym (append_assoc (open_marks os) (marks before) (m ∷ []))

end_within : (n k : ℕ) → n ≡ k + 1 → stage_within n lines.End ≡ Some (Within k)
end_within zero k is = absurd (omega arith)
end_within (suc j) k is = let same : j ≡ k = omega arith in ap (λ (b : ℕ). Some (Within b)) same

pub closed_stage : (os olds : List OpenBlock) (o : OpenBlock) → olds ≡ os ++ o ∷ [] → stage_within (length olds) lines.End ≡ Some (Within (length os))
closed_stage os olds o is = end_within (length olds) (length os) (ap length is ∙ length-append os (o ∷ []))

pub opened_stage : (os news : List OpenBlock) (o : OpenBlock) → news ≡ os ++ o ∷ [] → Some (Within (length os + 1)) ≡ Some (Within (length news))
opened_stage os news o is = ap (λ (b : ℕ). Some (Within b)) (sym (ap length is ∙ length-append os (o ∷ [])))
