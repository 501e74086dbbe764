-- A kind's number: of a word that names a kind the kind tells the word, and a comparison of names is one of numbers.
-- Not here: a number that names none (Numbers.antt). Assumes nothing.
use Prim.Native.Nat.{suc, zero, ℕ}
use Rattle.rules.specs.Kinds.{named}
use Rattle.rules.specs.Table.{Board, Event, Fifo, Kind, Memory, NoKind, Port, Resource, Semaphore, kind_of}
use Rattle.rules.specs.contracts.kinds.Kind.{the_type}
use Rattle.rules.specs.declared.kinds.Kind.TheVariants.{Board as ABoard, Event as AnEvent, Fifo as AFifo, Memory as AMemory, Port as APort, Resource as AResource, Semaphore as ASemaphore}
use Rattle.rules.specs.declared.kinds.Kind.{Kind as KindByName}
use Rattle.std.specs.Option.{option_eq}
use Rattle.std.specs.Prelude.{None, Option, Some}
use borrow.Author.Tests.{ne_eqb}
use denote.Enum.Bare.{sameb}
use denote.Enum.Declared.{tag_of}
use lib.Dec.{eqb, eqb-suc-suc}
use mathlib.Core.Path.{◌∙◌, ◌≡◌, ap, refl, sym}

-- of no kind 0
abbrev pub kind_number : Kind → ℕ
kind_number NoKind = 0
kind_number Event = 1
kind_number Semaphore = 2
kind_number Port = 3
kind_number Fifo = 4
kind_number Resource = 5
kind_number Board = 6
kind_number Memory = 7

numbered : (n : ℕ) → (kind_of n ≡ NoKind → ⊥) → n ≡ kind_number (kind_of n)
unfolding kind_of
numbered zero some = refl
numbered (suc zero) some = refl
numbered (suc (suc zero)) some = refl
numbered (suc (suc (suc zero))) some = refl
numbered (suc (suc (suc (suc zero)))) some = refl
numbered (suc (suc (suc (suc (suc zero))))) some = refl
numbered (suc (suc (suc (suc (suc (suc zero)))))) some = refl
numbered (suc (suc (suc (suc (suc (suc (suc zero))))))) some = refl
numbered (suc (suc (suc (suc (suc (suc (suc (suc n)))))))) some = absurd (some refl)

-- the word n names kind k
pub number_of : (k : Kind) (n : ℕ) → k ≡ kind_of n → (k ≡ NoKind → ⊥) → n ≡ kind_number k
number_of k n e some = rw e (numbered n (λ z. some (e ∙ z)))

-- ---- the names in the code, in the order of the numbers

tag_number : (j : KindByName) → kind_number (named (Some j)) ≡ suc (tag_of the_type j)
tag_number AnEvent = refl
tag_number ASemaphore = refl
tag_number APort = refl
tag_number AFifo = refl
tag_number AResource = refl
tag_number ABoard = refl
tag_number AMemory = refl

names_itself : (j : KindByName) → kind_of (kind_number (named (Some j))) ≡ named (Some j)
unfolding kind_of
names_itself AnEvent = refl
names_itself ASemaphore = refl
names_itself APort = refl
names_itself AFifo = refl
names_itself AResource = refl
names_itself ABoard = refl
names_itself AMemory = refl

pub some_kind : (j : KindByName) → named (Some j) ≡ NoKind → ⊥
some_kind AnEvent e = cc
some_kind ASemaphore e = cc
some_kind APort e = cc
some_kind AFifo e = cc
some_kind AResource e = cc
some_kind ABoard e = cc
some_kind AMemory e = cc

-- what `Kind::of(n) == Some(k)` tests
pub same_kind : (o : Option KindByName) (k : KindByName) (n : ℕ) → named o ≡ kind_of n → option_eq (sameb the_type) o (Some k) ≡ eqb n (kind_number (named (Some k)))
same_kind None k n e = sym (ne_eqb n _ (λ z. some_kind k (sym (names_itself k) ∙ ap kind_of (sym z) ∙ sym e)))
same_kind (Some j) k n e =
    let is : n ≡ kind_number (named (Some j)) = number_of (named (Some j)) n e (some_kind j) in
    rw (is, tag_number j, tag_number k, eqb-suc-suc)
