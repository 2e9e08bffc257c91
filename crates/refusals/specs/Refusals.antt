-- Answers: accepted, or refused for a reason at a place.
use Rattle.std.specs.Prelude.{ℕ, Bool, true, false, cond, ltb, Option, Some, None, Result, Ok, Err}
use Rattle.refusals.specs.declared.Reason.{Reason}
use Rattle.refusals.specs.declared.Reason.TheVariants.{HistoryLacking, NotFinite, OutOfRange, WrongLength, TooMany, CoefficientCount, NoForm, AltitudesFall, ListTooShort, NotMixed, NoBand, BandsOverlap, BandsGap, LogUnfit, SecondsFall, ConstantUnfit, StartOutside, SettingOutside, ListOfLosses}
use Rattle.refusals.specs.declared.Refusal.{Refusal}

-- the number of a reason in the C calls
abbrev pub number_of : Reason → ℕ
number_of HistoryLacking = 1
number_of NotFinite = 2
number_of OutOfRange = 3
number_of WrongLength = 4
number_of TooMany = 5
number_of CoefficientCount = 6
number_of NoForm = 7
number_of AltitudesFall = 8
number_of ListTooShort = 9
number_of NotMixed = 10
number_of NoBand = 11
number_of BandsOverlap = 12
number_of BandsGap = 13
number_of LogUnfit = 14
number_of SecondsFall = 15
number_of ConstantUnfit = 16
number_of StartOutside = 17
number_of SettingOutside = 18
number_of ListOfLosses = 19

-- an answer that has nothing to tell but whether the call is accepted
abbrev pub Answer : Type 0
Answer = Result (Unit {0}) Refusal

abbrev pub Accepted : Answer
Accepted = Ok tt

abbrev pub refusal_at : Reason → ℕ → Refusal
refusal_at reason place = record { reason = reason; place = place }

-- refused for a reason at a place, whatever an accepted call tells
abbrev pub Refused : {A : Type 0} → Reason → ℕ → Result A Refusal
Refused reason place = Err (refusal_at reason place)

abbrev pub accepted_of : {A : Type 0} → Result A Refusal → Bool
accepted_of (Ok _) = true
accepted_of (Err _) = false

-- the number that C gets: 0 for accepted
abbrev pub refusal_number : {A : Type 0} → Result A Refusal → ℕ
refusal_number (Ok _) = 0
refusal_number (Err r) = number_of r.reason

-- its place
abbrev pub refusal_place : {A : Type 0} → Result A Refusal → ℕ
refusal_place (Ok _) = 0
refusal_place (Err r) = r.place

-- an index into so many, if it is one
abbrev pub index_below : ℕ → ℕ → Option ℕ
index_below k n = cond (ltb k n) (Some k) None

-- a refusal, or what follows where there is none
abbrev pub refused_or : {A : Type 0} → Answer → Result A Refusal → Result A Refusal
refused_or (Ok _) rest = rest
refused_or (Err r) rest = Err r

-- whether a call is refused, and what for, without what an accepted one tells
abbrev pub as_answer : {A : Type 0} → Result A Refusal → Answer
as_answer (Ok _) = Accepted
as_answer (Err r) = Err r
