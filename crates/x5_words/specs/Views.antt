-- What the words that were read stand for.
use Rattle.x5_words.specs.Forms as forms
use Rattle.x5_words.specs.declared.words.Files.{Files}
use Rattle.x5_words.specs.declared.words.Words.{Words}
use Rattle.x5_words.specs.declared.words.Words.TheVariants as words

abbrev pub names_of : Files → forms.FileNames
names_of files = record { world = files.world.now; script = files.script.now }

abbrev pub form_of : Words → forms.Form
form_of (words.Run files summary) = forms.Run (names_of files) summary
form_of (words.Check file) = forms.Check file.now
form_of (words.Tree files) = forms.Tree (names_of files)
form_of (words.GenRun number) = forms.GenRun number
form_of (words.GenWorld number) = forms.GenWorld number
form_of (words.GenScript number) = forms.GenScript number
form_of (words.Show file) = forms.Show file.now
