-- What the sheet in the tables has, and what is answered then.
mod Subjects
mod Answering
