-- The kinds of book that there are. Each is a value of the enum `Kind` of the code, which is called `BookKind` in specs: there `Kind`
-- is the record of the numbers in which kinds differ.
use Rattle.std.specs.Prelude.{◌||◌, cond, List, ℕ, eqb, get_or}
use Rattle.fields.specs.Kind.{Kind, kind10, kind14}
use Rattle.kinds.specs.declared.Kind.{Kind as BookKind}
use Rattle.kinds.specs.declared.Kind.TheVariants.{Tag10, Tag14}

-- the numbers of a kind
abbrev pub kind_of : BookKind → Kind
kind_of Tag10 = kind10
kind_of Tag14 = kind14

-- the kind that the writer makes; its numbers are `writer_kind` (newest_is)
abbrev pub newest : BookKind
newest = Tag14

-- the kind of a book whose byte behind the opening fields is b: the tag of a unit's header, or of the close of a book without units. What
-- begins with any other byte is refused with 14 whatever the kind, so that any will do: the newest, also for a unit that is read at another
-- place of such a book.
unfoldable pub kind_by : ℕ → BookKind
kind_by b = cond (eqb b 0x10 || eqb b 0x20) Tag10 Tag14

-- "one kind per book": the kind of the book s, by that byte; the opening fields have 16 bytes
unfoldable pub book_kind : List ℕ → BookKind
book_kind s = kind_by (get_or s 16 0)
