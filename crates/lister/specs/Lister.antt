-- The listing of a table's bytes, for every byte length and every content, by the listing of its words.
use Rattle.std.specs.Prelude.{◌≤◌, ℕ, length, false, true, List, Err, Result, ◌≡◌}
use Rattle.bytes4.specs.Bytes.{words_from}
use Rattle.listing.specs.Listing.{ListedFrom}
use Rattle.rules.specs.Reply.{number_given}
use Rattle.rules.specs.declared.Refusal.TheVariants.{WrongLength}
use Rattle.rules.specs.declared.Refusal.{Refusal}
use Rattle.tablebytes.specs.TableBytes.{fits as table_fits}

-- "words little-endian"; "another byte length is refusal 1", and nothing is written
pub record BytesListed (bytes text : List ℕ) (r : Result ℕ Refusal) (text' : List ℕ) : Type 0 where
  pub table : table_fits bytes ≡ true → ListedFrom (words_from bytes) text r text'
  pub none : table_fits bytes ≡ false → (r ≡ Err WrongLength) × (text' ≡ text)
  pub fits : number_given r ≤ length text'
