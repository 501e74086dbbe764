-- A listing of the words that the bytes make: of a table's, and of none, which is a wrong length.
use Prim.Native.Nat.{ℕ}
use Rattle.lister.specs.Lister.{BytesListed}
use Rattle.listing.proofs.SetUps.{listed-fits}
use Rattle.listing.specs.Listing.{ListedFrom, listing_refusal_in, listing_reply_in, text_in}
use Rattle.rules.specs.Refusals.{need}
use Rattle.rules.specs.Reply.{given, refusal_with}
use Rattle.rules.specs.Table.{edition_of}
use Rattle.rules.specs.declared.Refusal.TheVariants.{WrongLength}
use Rattle.rules.specs.declared.Refusal.{Refusal}
use Rattle.std.specs.Prelude.{Err, Result}
use Rattle.tablebytes.specs.TableBytes.{table_words}
use mathlib.Core.List.{List, []}
use mathlib.Core.Path.{◌≡◌}

none-listed : (text : List ℕ) (r : Result ℕ Refusal) (text' : List ℕ) → ListedFrom [] text r text' → (r ≡ Err WrongLength) × (text' ≡ text)
unfolding edition_of given listing_refusal_in listing_reply_in need refusal_with text_in
none-listed text r text' l = (l.reply, l.bytes)

pub bytes-listed : (b text : List ℕ) (r : Result ℕ Refusal) (text' : List ℕ) → ListedFrom (table_words b) text r text' → BytesListed b text r text'
unfolding table_words
bytes-listed b text r text' l = record {
  table = λ e. rw e at l;
  none = λ e. none-listed text r text' (rw e at l);
  fits = listed-fits (table_words b) text r text' l;
}
