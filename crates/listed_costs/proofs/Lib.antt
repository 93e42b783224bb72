mod ListedLaws
