-- One law of the definition for each answer. Assumes nothing.
use mathlib.Core.Path.{◌≡◌, sym, ◌∙◌}
use Prim.Native.Nat.{ℕ}
use Rattle.model.specs.declared.Answer.{Answer}
use Rattle.model.proofs.Calls.AnswerLaws.{Numbered, numbered, is_refused, is_value, is_done, is_sent, is_held, is_merged, is_lost}
use Rattle.capi.specs.Numbers.{numbers, numbers_of}
use Rattle.capi.proofs.bytes.numbers_of.Goals as goal

are_numbers : (a : Answer) (n x e : ℕ) → Numbered a n x e → numbers n x e ≡ numbers_of a
are_numbers a n x e k = let q = numbered a n x e k in λ i. numbers (sym q.0 i) (sym q.1 i) (sym q.2 i)

pub returns-in-Refused : goal.returns-in-Refused
returns-in-Refused c = rw c.in-Refused.is (are_numbers _ _ _ _ (is_refused _))

pub returns-in-Value : goal.returns-in-Value
returns-in-Value c = rw c.in-Value.is (are_numbers _ _ _ _ (is_value _))

pub returns-in-Done : goal.returns-in-Done
returns-in-Done c = rw c.in-Done.is (c.became.ensures ∙ are_numbers _ _ _ _ is_done)

pub returns-in-Sent : goal.returns-in-Sent
returns-in-Sent c = rw c.in-Sent.is (c.became-in-Sent.ensures ∙ are_numbers _ _ _ _ is_sent)

pub returns-in-Held : goal.returns-in-Held
returns-in-Held c = rw c.in-Held.is (c.became-in-Held.ensures ∙ are_numbers _ _ _ _ is_held)

pub returns-in-Merged : goal.returns-in-Merged
returns-in-Merged c = rw c.in-Merged.is (c.became-in-Merged.ensures ∙ are_numbers _ _ _ _ is_merged)

pub returns-in-Lost : goal.returns-in-Lost
returns-in-Lost c = rw c.in-Lost.is (c.became-in-Lost.ensures ∙ are_numbers _ _ _ _ is_lost)
